-- The loader number that a word names. Definitions only.
use Rattle.std.specs.Prelude.{◌&&◌, cond, List, ℕ, suc, min, Option, Some, None}
use Rattle.lists.specs.Lists.{every}
use Rattle.sheet.specs.Sizes.{max_loader}
use Rattle.forms.specs.Form.{is_digit, some, value}

-- a number that is past every loader number, as the least such one
abbrev pub capped : ℕ → ℕ
capped n = min n (suc max_loader)

-- one or more digits, and whatever they are worth
unfoldable pub loader_named : List ℕ → Option ℕ
loader_named word = cond (some word && every is_digit word) (Some (capped (value word))) None
