-- No number is taken for another: what a capped number says of a loader, the number itself says.
use Rattle.std.specs.Prelude.{◌≡◌, ◌↔◌, ℕ, ◌≤◌}
use Rattle.std.proofs.Common.{arith}
use Rattle.sheet.specs.Sizes.{max_loader}
use Rattle.wave_loader.specs.Named.{capped}

-- it is the number of a loader exactly where the number is that
pub capped_same : (v loader : ℕ) → loader ≤ max_loader → (capped v ≡ loader) ↔ (v ≡ loader)
capped_same v loader h = (λ e. omega arith, λ e. omega arith)
