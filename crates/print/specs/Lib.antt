pub mod PageConditions
