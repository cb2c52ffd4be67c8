pub mod Rising
pub mod RisingLaws
pub mod RisingFrom
