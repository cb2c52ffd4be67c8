pub mod UnitStep
