pub mod ConvertingLaws
