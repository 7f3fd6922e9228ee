-- Where the code stands: what its row, count word and marks say of the walk, one child on and one chunk deeper.
use mathlib.Core.Path.{◌≡◌, refl, sym, ◌∙◌, subst}
use mathlib.Core.Logic.{◌↔◌}
use mathlib.Core.Bool.{Bool, true, false, cond}
use mathlib.Core.List.{List, [], ◌∷◌, ◌++◌}
use Prim.Native.Nat.{ℕ, ◌+◌, ◌≤◌, ◌<◌, ◌^◌, min}
use native.Mathlib.Omega.{arith}
use lib.Dec.{eqb}
use lib.ListN.{length, take, drop, get_or, get_or-replicate}
use lib.Seq.{take_at}
use borrow.Author.Tests.{eqb-true, eqb-false}
use Rattle.studio_rules.specs.Table.{listed, under}
use Rattle.studio_rules.specs.OwnData.{count, root}
use Rattle.studio_rules.specs.Rules.{Parent, inside, tally, few}
use Rattle.studio_rules.proofs.Once.{few_nil}
use Rattle.studio_rules.proofs.Rows.{under-listed}
use Rattle.studio_rules.proofs.Steps.{Entered}
use Rattle.shared_words.specs.Bytes.{Bytes}
use Rattle.shared_words.proofs.Bytes.{bytes_drop, bytes_take, word_small}
use Rattle.studio_row.specs.Packed.{row_of, slot_of}
use Rattle.studio_row.proofs.Facts.{slot_small}
use Rattle.studio_own_data.specs.Bounds.{bound_of, BoundIs}
use Rattle.studio_marks.specs.Marks.{tally_slot, noted, no_marks}
use Rattle.studio_marks.proofs.Noted.{hit, miss, counts, counts-not}
use Rattle.studio_head.specs.Contexts.{Context}

module _ (p : Parent) (seen : List ℕ) (parent word : ℕ) (ms : List ℕ) (k : Context p seen parent word ms) (six : length ms ≡ 6) (id : ℕ) (u : under p.id id ≡ true) where
  -- one child on
  pub context_next : few p.id (id ∷ seen) ≡ true → (at : ℕ) → 1 ≤ at → Context p (id ∷ seen) parent word (noted (slot_of id) at ms)
  context_next f at o = record {
    is-listed = k.is-listed;
    row_is = k.row_is;
    bound-is = k.bound-is;
    all_under = (u, k.all_under);
    not_twice_lem = f;
    marked = λ j h. go j h (eqb (slot_of id) j) refl;
    counted = more (eqb (slot_of id) 5) refl;
  }
    where
      go : (j : ℕ) → j < 5 → (b : Bool) → eqb (slot_of id) j ≡ b → (get_or (noted (slot_of id) at ms) j 0 ≡ 0) ↔ (cond b 1 0 + tally_slot j seen ≡ 0)
      go j h true q =
          let g : get_or (noted (slot_of id) at ms) j 0 ≡ at = hit ms j at (h, six) (slot_of id) (eqb-true (slot_of id) j q) in
          (λ z. absurd (omega arith), λ z. absurd (omega (arith, z)))
      go j h false q =
          let g : get_or (noted (slot_of id) at ms) j 0 ≡ get_or ms j 0 = miss ms j at (h, six) (slot_of id) (eqb-false _ _ q) in
          (λ z. omega (arith, (k.marked j h).0 (sym g ∙ z)), λ z. g ∙ (k.marked j h).1 (omega (arith, z)))

      more : (b : Bool) → eqb (slot_of id) 5 ≡ b → get_or (noted (slot_of id) at ms) 5 0 ≡ min (cond b 1 0 + tally_slot 5 seen) root
      more true q = counts ms (slot_of id) at six (omega (arith, eqb-true (slot_of id) 5 q)) ∙ omega (arith, k.counted)
      more false q =
          counts-not ms (slot_of id) at six (omega (arith, eqb-false (slot_of id) 5 q, slot_small id (under-listed p.id id u))) ∙ omega (arith, k.counted)

-- one chunk deeper
pub context_inside : (p : Parent) (seen : List ℕ) (id : ℕ) (own : List ℕ) (row word : ℕ) → listed id ≡ true → row ≡ row_of id → BoundIs (inside p seen id own) word → Context (inside p seen id own) [] row word no_marks
context_inside p seen id own row word l e w = record {
  is-listed = l;
  row_is = e;
  bound-is = w;
  all_under = tt;
  not_twice_lem = few_nil id;
  marked = λ j h. (λ z. refl, λ z. get_or-replicate 6 j 0 0 (omega (arith, h)));
  counted = refl;
}

-- ---- its bound is a word

-- own data of a chunk that was met in bytes
pub own_bytes : {p : Parent} {seen s : List ℕ} {id : ℕ} {own kids rest : List ℕ} → Entered p seen s id own kids rest → Bytes s → Bytes own
own_bytes {s = s} {own = own} {kids = kids} {rest = rest} e b =
    let front : take (length own) (drop 6 s) ≡ own = rw (← e.is) (take_at own (kids ++ rest) (length own) refl) in
    subst Bytes front (bytes_take (length own) (drop 6 s) (bytes_drop 6 s b))

pub bound_small : (p : Parent) (seen : List ℕ) (id : ℕ) (own : List ℕ) → Bytes own → bound_of (inside p seen id own) < 2 ^ 16
bound_small p seen id own b = go (eqb id 0xB002)
  where
    go : (x : Bool) → cond x (min (tally (id ∷ []) seen) root) (count own) < 2 ^ 16
    go true = omega arith
    go false = word_small own b
