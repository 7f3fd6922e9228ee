-- What tells a chunk by its bytes: where its row lets it stand, how many bytes its own data has, and whether it may hold
-- children. Two layouts of the same bytes are held together by these rules alone, which look at the identifier and the own
-- data of the chunk around and at nothing else: no other rule, and not the version, is read here. A claim that only needs to
-- know where chunks stand rests on these, and a new rule does not touch it.
use Rattle.std.specs.Prelude.{◌≡◌, ℕ, true, ◌||◌, List, [], eqb, length}
use Rattle.studio_rules.specs.Table.{the_file, under, shape, plus}
use Rattle.studio_rules.specs.OwnData.{own_size}
use Rattle.studio_rules.specs.Layout.{Run, end, skip, known}
use Rattle.studio_rules.specs.Rules.{no_child, unlisted}

-- the chunk around, as far as it matters here
pub record Place : Type 0 where
  pub id : ℕ
  pub own : List ℕ

abbrev pub within : ℕ → List ℕ → Place
within id own = record { id = id; own = own }

abbrev pub in_file : Place
in_file = within the_file []

pub record Fits (p : Place) (id : ℕ) (own : List ℕ) (kids : Run) : Type 0 where
  pub in_place : under p.id id ≡ true
  pub own_data_exact_lem : eqb (own_size (shape id) p.own own) (length own) ≡ true
  pub in_plus : (plus id || no_child kids) ≡ true

abbrev pub Parses : Place → Run → Type 0
Parses p end = Unit
Parses p (skip id body rest) = (unlisted id ≡ true) × Parses p rest
Parses p (known id own kids rest) = Fits p id own kids × Parses (within id own) kids × Parses p rest
