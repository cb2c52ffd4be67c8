-- What a reading call leaves in the lent rooms. Definitions only.
use Rattle.std.specs.Prelude.{ℕ, List, map, length, take}
use Rattle.lists.specs.Lists.{on_front}
use Rattle.forms.specs.declared.House.{House}
use Rattle.sheet.specs.declared.Sheet.{Sheet}
use Rattle.sheet.specs.Sheet.{WrittenSheet, constraints, loaders}
use Rattle.read_questions.specs.Reading.{sheet_in, ListRooms, rooms, Reply, refused, read, reading}

abbrev pub sizes_of : ListRooms (List ℕ) → ListRooms ℕ
sizes_of m =
    rooms (length m.loader) (length m.first) (length m.last) (length m.from) (length m.to) (length m.low) (length m.high)

-- a refusal changes nothing
abbrev pub leaves : Reply → WrittenSheet → ListRooms (List ℕ) → ListRooms (List ℕ)
leaves (refused q n) s m = m
leaves (read p u r) s m =
    rooms (on_front (loaders s) m.loader)
    (on_front (map (λ w. w.first) (constraints s).units) m.first) (on_front (map (λ w. w.last) (constraints s).units) m.last)
    (on_front (map (λ w. w.from) s.rules) m.from) (on_front (map (λ w. w.to) s.rules) m.to)
    (on_front (map (λ w. w.low) s.rules) m.low) (on_front (map (λ w. w.high) s.rules) m.high)

abbrev pub rooms_after : House → List ℕ → ListRooms (List ℕ) → ListRooms (List ℕ)
rooms_after h text m = leaves (reading h text (sizes_of m)) (sheet_in h text) m

-- what the code does for it: so many units and rules of the arrays, in the rooms
abbrev pub filled : Sheet → ListRooms (List ℕ) → ListRooms (List ℕ) → ListRooms (List ℕ)
filled s arrays m =
    rooms (on_front (take s.units arrays.loader) m.loader)
    (on_front (take s.units arrays.first) m.first) (on_front (take s.units arrays.last) m.last)
    (on_front (take s.rules arrays.from) m.from) (on_front (take s.rules arrays.to) m.to)
    (on_front (take s.rules arrays.low) m.low) (on_front (take s.rules arrays.high) m.high)
