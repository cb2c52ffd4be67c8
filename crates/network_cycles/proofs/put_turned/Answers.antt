-- The back of the cycle is written first, and its front behind that.
use Rattle.std.proofs.Common.{◌-◌, refl, length}
use Rattle.network_cycles.proofs.CycleTurnLaws.{turned_list}
use Rattle.network_cycles.proofs.put_turned.Goals as goal

pub returns : goal.returns
returns c =
    let xs = c.args.c.now in
    let low = c.args.low in
    let n = length xs in
    turned_list xs c.args.out.now c.copy_list.new.out c.copy_list-2.new.out low (n - (n - low)) n (n - low)
    refl c.requires.0 refl refl c.requires.1 c.copy_list.ensures c.copy_list-2.ensures
