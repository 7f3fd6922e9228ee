-- The judgement of the whole: the rows first, then names, objects and the size of what they give.
use Rattle.std.specs.Prelude.{Ok, Err}
use mathlib.Core.Path.{◌≡◌, refl, sym, ap, ◌∙◌}
use Prim.Native.Nat.{ℕ, suc, ◌+◌, ◌<◌, ◌≤◌}
use native.Mathlib.Omega.{arith}
use mathlib.Core.Bool.{Bool, true, false}
use mathlib.Core.List.{List, [], ◌∷◌, ◌++◌}
use lib.Dec.{T, leb}
use lib.Ieee.{Float, nan, binary32, fits}
use lib.ListN.{get_or}
use borrow.Author.Tests.{le-leb, lt-leb, leb-true, leb-false}
use Rattle.shared_words.specs.declared.Refusal.{Refusal}
use Rattle.shared_words.specs.declared.Refusal.TheVariants.{TooLong, NoRoom}
use Rattle.shared_words.specs.Lists.{every}
use Rattle.shared_words.specs.Conditions.{Condition, must, broken, answered}
use Rattle.shared_words.specs.Refusals.{limit}
use Rattle.shared_words.proofs.Bools.{both}
use Rattle.shared_words.proofs.Conditions.{broken-here, broken-later}
use Rattle.studio_write_judge.specs.Judged.{answer_of}
use Rattle.studio_write.specs.ReadsBack.{Floats32}
use Rattle.studio_figure_rules.specs.Given.{Figure}
use Rattle.studio_figure_rules.specs.Judged.{size_of, conditions}
use Rattle.studio_figure_rules.specs.Described.{Flat, fit_conditions, described, judged_flat}
use Rattle.studio_figure_rules.proofs.Described.{broken-first, broken-rest}
use Rattle.studio_figure_rows.specs.Rows.{Capped, figure_of}
use Rattle.studio_figure_rows.specs.Same.{Fits}
use Rattle.studio_figure_rows.proofs.Answers.{refused-told, good-told}
use Rattle.studio_figure_rows.proofs.Same.{by_position}
use Rattle.studio_figure_judge.specs.Judged.{names_asked, objects_asked, size_of_rows, size_asked, size_answer}
use Rattle.studio_figure_judge.proofs.Same.{size-all, asked-same}

-- ---- the size

pub sizes-joined : (front first rest size : ℕ) → Capped 0 front 1048576 first → Capped 0 (first + rest) 1048576 size → Capped 0 (front + rest) 1048576 size
sizes-joined front first rest size a b = go (leb first 1048576) refl (leb size 1048576) refl
  where
    go : (x : Bool) → leb first 1048576 ≡ x → (y : Bool) → leb size 1048576 ≡ y → Capped 0 (front + rest) 1048576 size
    go true e y d =
        let q = a.exact (leb-true first 1048576 e) in
        let w = b.within in
        record { exact = λ l. omega (arith, b.exact l); past = λ l. omega (arith, b.past l); within = w }
    go false e true d =
        let p = leb-false first 1048576 e in
        let q = b.exact (leb-true size 1048576 d) in
        let s = leb-true size 1048576 d in
        absurd (omega arith)
    go false e false d =
        let p = a.past (leb-false first 1048576 e) in
        let s = leb-false size 1048576 d in
        let w = b.within in
        record { exact = λ l. absurd (omega arith); past = λ l. omega arith; within = w }

module _ (all size room : ℕ) (c : Capped 0 all 1048576 size) where
  pub too_long : 1048576 < size → Err TooLong ≡ size_answer all room
  unfolding size_answer
  too_long h = sym (ap (answer_of all) (broken-here (leb all limit) TooLong (must (leb all room) (NoRoom all) ∷ []) (lt-leb all limit (omega (arith, c.past h)))))

  module _ (h : size ≤ 1048576) where
    is : size ≡ all
    is = omega (arith, c.exact h)

    within : broken (size_asked all room) ≡ broken (must (leb all room) (NoRoom all) ∷ [])
    within = broken-later (leb all limit) TooLong (must (leb all room) (NoRoom all) ∷ []) (le-leb all limit (omega (arith, is)))

    pub no_room : room < size → Err (NoRoom size) ≡ size_answer all room
    unfolding size_answer
    no_room l = ap (λ (n : ℕ). Err (NoRoom n)) is ∙ sym (ap (answer_of all) (within ∙ broken-here (leb all room) (NoRoom all) [] (lt-leb all room (omega (arith, is)))))

    pub has_room : size ≤ room → Ok size ≡ size_answer all room
    unfolding size_answer broken
    has_room l = ap Ok is ∙ sym (ap (answer_of all) (within ∙ broken-later (leb all room) (NoRoom all) [] (le-leb all room (omega (arith, is)))))

-- ---- the whole

pub fits_told : (r : Flat) → (Ok tt) ≡ answered (fit_conditions r) → Fits r
fits_told r e = (by_position r).fits (good-told (fit_conditions r) e)

module _ (r : Flat) (room : ℕ) where
  pub misfits : (x : Refusal) → Err x ≡ answered (fit_conditions r) → Err x ≡ judged_flat r room
  unfolding judged_flat
  misfits x e = sym (ap (answer_of (size_of (described r))) (broken-first (fit_conditions r) (conditions (described r) room) x (refused-told (fit_conditions r) x e)))

  abbrev names : List Condition
  names = names_asked r.names r.objects r.materials r.groups

  abbrev objects : List Condition
  objects = objects_asked r.objects r.vertices r.corners r.groups r.faces

  abbrev size : ℕ
  size = size_of_rows r.objects r.groups r.materials

  module _ (b : Floats32 r.vertices) (e : (Ok tt) ≡ answered (fit_conditions r)) where
    joined : judged_flat r room ≡ answer_of size (broken (names ++ (objects ++ size_asked size room)))
    unfolding judged_flat
    joined =
        let f = fits_told r e in
        ap (answer_of (size_of (described r))) (broken-rest (fit_conditions r) (conditions (described r) room) (good-told (fit_conditions r) e)) ∙
        ap (λ (g : Figure). answer_of (size_of g) (broken (conditions g room))) ((by_position r).same f) ∙
        ap (λ (n : ℕ). answer_of n (broken (conditions (figure_of r) room))) (size-all r f) ∙ ap (λ (cs : List Condition). answer_of size (broken cs)) (asked-same r f b room)

    pub names-refused : (x : Refusal) → Err x ≡ answered names → Err x ≡ judged_flat r room
    names-refused x h = sym (joined ∙ ap (answer_of size) (broken-first names (objects ++ size_asked size room) x (refused-told names x h)))

    module _ (h : (Ok tt) ≡ answered names) where
      named : judged_flat r room ≡ answer_of size (broken (objects ++ size_asked size room))
      named = joined ∙ ap (answer_of size) (broken-rest names (objects ++ size_asked size room) (good-told names h))

      pub objects-refused : (x : Refusal) → Err x ≡ answered objects → Err x ≡ judged_flat r room
      objects-refused x o = sym (named ∙ ap (answer_of size) (broken-first objects (size_asked size room) x (refused-told objects x o)))

      pub sized : (Ok tt) ≡ answered objects → size_answer size room ≡ judged_flat r room
      unfolding size_answer
      sized o = sym (named ∙ ap (answer_of size) (broken-rest objects (size_asked size room) (good-told objects o)))
