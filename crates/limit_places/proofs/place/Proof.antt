-- Row and column are below w, so the place is inside the table.
use borrow.Author.Rules.{rules}
use native.Mathlib.Omega.{arith}
use Rattle.network.proofs.TableLaws.{row_inside}
use Rattle.limit_places.proofs.place.Statement.{statement}
use Rattle.limit_places.proofs.place.Tie as tie

mul_result : tie.Need-overflow_mul-result
mul_result c =
    let a = c.before.args in
    omega (arith, row_inside a.from.0 a.w c.before.requires.0)

add_result : tie.Need-overflow_add-result
add_result c =
    let a = c.before.before.args in
    omega (arith, row_inside a.from.0 a.w c.before.before.requires.0)

pub place_spec : {M : Type 1} → statement M
place_spec = tie.close (tie.spec mul_result add_result (λ c. search rules))
