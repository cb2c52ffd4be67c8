-- Where the middles do not all finish, the half-done table is cleared, and past the table the loops changed nothing.
use Rattle.std.proofs.Common.{◌≡◌, arith}
use Rattle.network_middles.proofs.pass_middles.Goals as goal

pub run_middles-outcome-requires : goal.run_middles-outcome-requires
run_middles-outcome-requires c =
    let e : c.min-capped.result ≡ c.args.w = omega arith in
    rw e c.requires
