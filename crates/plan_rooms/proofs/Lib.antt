pub mod RoomsLaws
