-- What the bytes that are left make of the number so far is what the word names.
use Rattle.std.proofs.Common.{◌≡◌, suc, ◌≤◌, drop}
use Rattle.sheet.specs.Sizes.{max_loader}
use Rattle.wave_loader.specs.Named.{loader_named}
use Rattle.wave_loader.proofs.LoaderLaws.{named_from}
use Rattle.wave_loader.proofs.loader_of.Given as goal

abbrev pub invariant-loop-b : goal.invariant-loop-b
invariant-loop-b l = (l.number ≤ suc max_loader) × (loader_named l.word ≡ named_from l.number (drop l.b-index l.word))
