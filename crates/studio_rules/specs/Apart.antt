-- A property of the table: no identifier may stand both under a chunk and under that chunk's own child. So what follows
-- a chunk is never taken for a child of it, whatever its length field says (crate claim_turned rests on this).
use Rattle.std.specs.Prelude.{◌≡◌, ℕ, Bool, true, false, not, ◌&&◌, ◌||◌, List, [], ◌∷◌}
use Rattle.shared_words.specs.Lists.{every, among}
use Rattle.studio_rules.specs.Table.{Row, rows, under}

-- two lists have an identifier in common
abbrev pub common : List ℕ → List ℕ → Bool
common [] ys = false
common (x ∷ xs) ys = among x ys || common xs ys

-- the chunks of row q do not stand both under those of row r and under what those of row r stand under
abbrev pub apart : Row → Row → Bool
apart r q = not (common r.ids q.parents && common r.parents q.parents)

-- THE TEST, computed over all pairs of rows
abbrev pub RowsApart : Type 0
RowsApart = every (λ r. every (apart r) rows) rows ≡ true

-- the same, of the table as it is read: y may stand under x, and x under p, so y may not stand under p
abbrev pub UnderApart : Type 0
UnderApart = (p x y : ℕ) → under p x ≡ true → under x y ≡ true → under p y ≡ false
