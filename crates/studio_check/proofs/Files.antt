-- The whole file: its own conditions, and the answer once the children of 4D4D are read.
use Rattle.std.specs.Prelude.{Result, Ok, Err}
use mathlib.Core.Path.{◌≡◌, refl, sym, ap, ◌∙◌, subst}
use mathlib.Core.Bool.{Bool, true}
use mathlib.Core.List.{List, []}
use mathlib.Core.Option.{Option, none, some}
use Prim.Native.Nat.{ℕ, ◌+◌, ◌≤◌, ◌<◌}
use native.Mathlib.Omega.{arith}
use lib.Dec.{eqb, leb}
use lib.ListN.{length, take, drop, length-drop}
use lib.Seq.{slice, take-length}
use borrow.Author.Tests.{le-leb, lt-leb, leb-true, eq-eqb, ne_eqb}
use Rattle.shared_words.specs.declared.Refusal.{Refusal}
use Rattle.shared_words.specs.declared.Refusal.TheVariants.{TooLong, NotAFigure, Short, Overrun, Trailing}
use Rattle.shared_words.specs.Refusals.{limit}
use Rattle.studio_rules.specs.declared.Counts.{Counts}
use Rattle.shared_words.specs.Bytes.{Bytes, value}
use Rattle.studio_rules.specs.Table.{rows, listed, limits, at_most_one_ids}
use Rattle.studio_rules.specs.Layout.{figure}
use Rattle.studio_rules.specs.Rules.{Parent, file}
use Rattle.studio_rules.specs.Gives.{record_count, headers, owned, skipped}
use Rattle.shared_words.specs.Conditions.{broken, accepted, unless}
use Rattle.studio_rules.specs.Walk.{file_conditions, end_conditions, length_field, ended, walk, version_in, top, figure_at, verdict}
use Rattle.studio_rules.specs.Calls.{counts_of, check_of, check_call}
use Rattle.shared_words.proofs.Conditions.{met, unbroken, broken-here, broken-later}
use Rattle.studio_rules.proofs.Sound.{length-bytes}
use Rattle.studio_rules.proofs.Theorems.{counted-once}
use Rattle.shared_numbers.specs.Numbers.{word_at, long_at}
use Rattle.studio_row.specs.Packed.{places, row_of}
use Rattle.studio_marks.specs.Marks.{no_marks, ShutIs, RuleIs, EndIs}
use Rattle.studio_walk.specs.declared.Ran.{Ran}
use Rattle.studio_head.specs.Contexts.{Context}
use Rattle.studio_walk.specs.Runs.{RunIs, ran_to}
use Rattle.studio_check.specs.Figure.{CountsAre, figure_answer}
use Rattle.studio_walk.proofs.Contexts.{context_inside}
use Rattle.studio_walk.proofs.Chunks.{clash, Ran-well, run-refused, run-accepted}
use Rattle.studio_rules.proofs.SixEach.{six_each}

-- ---- the file's own conditions

module _ (s : List ℕ) where
  shut_is : (x : Option Refusal) (r : Result Unit Refusal) → broken (file_conditions s (length_field s)) ≡ x → ShutIs x r → ShutIs (broken (file_conditions s (length_field s))) r
  shut_is x r e h = subst (λ (y : Option Refusal). ShutIs y r) (sym e) h

  pub file-too_long : limit < length s → ShutIs (broken (file_conditions s (length_field s))) (Err TooLong)
  file-too_long h = shut_is (some TooLong) _ (broken-here _ _ _ (lt-leb (length s) limit h)) refl

  pub file-too_short : length s ≤ limit → length s < 6 → ShutIs (broken (file_conditions s (length_field s))) (Err NotAFigure)
  file-too_short short h = shut_is (some NotAFigure) _ (broken-later _ _ _ (le-leb (length s) limit short) ∙ broken-here _ _ _ (lt-leb 6 (length s) h)) refl

  pub file-no-figure : length s ≤ limit → 6 ≤ length s → (id : ℕ) → id ≡ word_at s 0 → (id ≡ 0x4D4D → ⊥) → ShutIs (broken (file_conditions s (length_field s))) (Err NotAFigure)
  unfolding word_at
  file-no-figure short six id i h =
      shut_is (some NotAFigure) _
      (broken-later _ _ _ (le-leb (length s) limit short) ∙ broken-later _ _ _ (le-leb 6 (length s) six) ∙ broken-here _ _ _ (ne_eqb (value (take 2 s)) 0x4D4D (λ e. h (i ∙ e)))) refl

  -- it begins with a 4D4D, whose length field is n
  pub record Begun (n : ℕ) : Type 0 where
    pub short : length s ≤ limit
    pub six : 6 ≤ length s
    pub is : word_at s 0 ≡ 0x4D4D
    pub n-is : n ≡ long_at s 2

  module _ (n : ℕ) (b : Begun n) where
    p₁ : leb (length s) limit ≡ true
    p₁ = le-leb (length s) limit b.short

    p₂ : leb 6 (length s) ≡ true
    p₂ = le-leb 6 (length s) b.six

    p₃ : eqb (value (take 2 s)) 0x4D4D ≡ true
    unfolding word_at
    p₃ = eq-eqb (value (take 2 s)) 0x4D4D b.is

    field : length_field s ≡ n
    unfolding long_at
    field = sym b.n-is

    past : broken (file_conditions s (length_field s)) ≡ broken (drop 3 (file_conditions s (length_field s)))
    past = broken-later _ _ _ p₁ ∙ broken-later _ _ _ p₂ ∙ broken-later _ _ _ p₃

    pub file-short : n < 6 → ShutIs (broken (file_conditions s (length_field s))) (Err (Short 0))
    file-short h = shut_is (some (Short 0)) _ (past ∙ broken-here _ _ _ (rw field (lt-leb 6 n h))) refl

    module _ (m : 6 ≤ n) where
      p₄ : leb 6 (length_field s) ≡ true
      p₄ = rw field (le-leb 6 n m)

      pub file-overrun : length s < n → ShutIs (broken (file_conditions s (length_field s))) (Err (Overrun 0))
      file-overrun h = shut_is (some (Overrun 0)) _ (past ∙ broken-later _ _ _ p₄ ∙ broken-here _ _ _ (rw field (lt-leb n (length s) h))) refl

      module _ (l : n ≤ length s) where
        p₅ : leb (length_field s) (length s) ≡ true
        p₅ = rw field (le-leb n (length s) l)

        pub file_trailing : n < length s → ShutIs (broken (file_conditions s (length_field s))) (Err (Trailing n))
        file_trailing h =
            shut_is (some (Trailing n)) _
            (past ∙ broken-later _ _ _ p₄ ∙ broken-later _ _ _ p₅ ∙ broken-here _ _ _ (rw field (lt-leb (length s) n h)) ∙ ap (λ (k : ℕ). some (Trailing k)) field) refl

        pub file_fine : length s ≤ n → ShutIs (broken (file_conditions s (length_field s))) (Ok tt)
        file_fine h = shut_is none _ (unbroken _ (p₁, (p₂, (p₃, (p₄, (p₅, (rw field (le-leb (length s) n h), tt))))))) refl

  -- ---- what follows of them

  pub file-refused : (y : Refusal) (r : Result Unit Refusal) → r ≡ Err y → ShutIs (broken (file_conditions s (length_field s))) r → Err y ≡ check_call s
  unfolding check_call verdict
  file-refused y r e h = go (broken (file_conditions s (length_field s))) h
    where
      go : (x : Option Refusal) → ShutIs x r → Err y ≡ check_of (unless x (figure_at (top (version_in (drop 6 s))) (drop 6 s)))
      go (some x) h = cc
      go none h = absurd (clash (cc))

  pub file-is_fine : (r : Result Unit Refusal) → r ≡ (Ok tt) → ShutIs (broken (file_conditions s (length_field s))) r → broken (file_conditions s (length_field s)) ≡ none
  file-is_fine r e h = go (broken (file_conditions s (length_field s))) h
    where
      go : (x : Option Refusal) → ShutIs x r → x ≡ none
      go (some x) h = absurd (clash (cc))
      go none h = refl

  pub file-read : broken (file_conditions s (length_field s)) ≡ none → check_of (figure_answer s) ≡ check_call s
  unfolding check_call verdict figure_answer
  file-read e = rw e

  pub file-bounds : broken (file_conditions s (length_field s)) ≡ none → (6 ≤ length s) × (length s ≤ limit)
  file-bounds e = let m = met _ e in (leb-true 6 (length s) m.1.0, leb-true (length s) limit m.0)

-- ---- the children of 4D4D

top-listed : listed 0x4D4D ≡ true
unfolding listed rows
top-listed = refl

pub figure-row : 0x00_1_0_5_0004_1 ≡ row_of 0x4D4D
unfolding rows limits at_most_one_ids places row_of
figure-row = refl

pub top_context : (v row : ℕ) → row ≡ row_of 0x4D4D → Context (top v) [] row 0 no_marks
top_context v row e = context_inside (file v) [] 0x4D4D [] row 0 top-listed e record { is = refl; small = omega arith }

-- 4D4D, in a file of the version that its bytes tell
abbrev pub told : List ℕ → Parent
told s = top (version_in (drop 6 s))

-- what the code found of the children of 4D4D, said of the walk
pub top-run : (s : List ℕ) (row : ℕ) → row ≡ row_of 0x4D4D → (as_many : Bool) → RuleIs (told s) as_many → (r : Result Ran Refusal) (ms : List ℕ) →
    ((p : Parent) (seen : List ℕ) → RuleIs p as_many → Context p seen row 0 no_marks → RunIs (length s) 0 0 6 no_marks (walk p seen 6 (slice 6 (length s) s)) r ms) →
    {r' : Result Ran Refusal} → r ≡ r' → RunIs (length s) 0 0 6 no_marks (walk (told s) [] 6 (slice 6 (length s) s)) r' ms
top-run s row e as_many rule r ms h is = subst (λ z. RunIs (length s) 0 0 6 no_marks (walk (told s) [] 6 (slice 6 (length s) s)) z ms) is (h (told s) [] rule (top_context (version_in (drop 6 s)) row e))

abbrev four : ℕ → ℕ → ℕ → ℕ → Counts
four records headers own skips = record { records = records; headers = headers; own = own; skipped = skips }

same-counts : (r q : Counts) → r.records ≡ q.records → r.headers ≡ q.headers → r.own ≡ q.own → r.skipped ≡ q.skipped → r ≡ q
same-counts r q a b c d =
    ap (λ (x : ℕ). four x r.headers r.own r.skipped) a ∙ ap (λ (x : ℕ). four q.records x r.own r.skipped) b ∙
    ap (λ (x : ℕ). four q.records q.headers x r.skipped) c ∙ ap (four q.records q.headers q.own) d

module _ (s : List ℕ) (b : Bytes s) (six : 6 ≤ length s) (short : length s ≤ limit) (inner : List ℕ) where
  whole : slice 6 (length s) s ≡ drop 6 s
  whole = ap (drop 6) (take-length s)

  answer-is : figure_answer s ≡ ended (told s) 0 (walk (told s) [] 6 (slice 6 (length s) s))
  unfolding figure_answer
  answer-is = rw whole

  pub figure-refused : (y : Refusal) → RunIs (length s) 0 0 6 no_marks (walk (told s) [] 6 (slice 6 (length s) s)) (Err y) inner → Err y ≡ check_of (figure_answer s)
  figure-refused y h =
      let a = run-refused (file (version_in (drop 6 s))) [] s 0 0x4D4D 6 (length s) [] b six (omega arith) (omega arith) (omega arith) (walk (told s) [] 6 (slice 6 (length s) s)) y inner h in
      sym (ap check_of (answer-is ∙ ap (ended (told s) 0) a))

  module _ (next n k : ℕ) (h : RunIs (length s) 0 0 6 no_marks (walk (told s) [] 6 (slice 6 (length s) s)) (ran_to next n k) inner) where
    well : Ran-well (file (version_in (drop 6 s))) [] s 0 0x4D4D 6 (length s) [] b six (omega arith) (omega arith) (omega arith) (walk (told s) [] 6 (slice 6 (length s) s)) n k inner
    well = run-accepted (file (version_in (drop 6 s))) [] s 0 0x4D4D 6 (length s) [] b six (omega arith) (omega arith) (omega arith) next n k inner h

    module _ (as_many : Bool) (rule : RuleIs (told s) as_many) (shut : Result Unit Refusal) (ends : EndIs s 0x4D4D 0 as_many inner shut) where
      at-end : ShutIs (broken (end_conditions (told s) 0 well.t)) shut
      at-end = ends (told s) well.t (length s) refl rule well.kept

      pub figure_shut : (y : Refusal) → shut ≡ Err y → Err y ≡ check_of (figure_answer s)
      figure_shut y e =
          go (broken (end_conditions (told s) 0 well.t)) (subst (ShutIs (broken (end_conditions (told s) 0 well.t))) e at-end) ∙
          sym (ap check_of (answer-is ∙ ap (ended (told s) 0) well.is))
        where
          go : (x : Option Refusal) → ShutIs x (Err y) → Err y ≡ check_of (unless x (accepted well.t))
          go (some x) h = cc
          go none h = absurd (clash (cc))

      -- the counts: every byte once
      counts_are : (r : Counts) → CountsAre (n + 1) k (length s) r → r ≡ counts_of well.t
      counts_are r c =
          let z = counted-once (figure well.t) in
          let y = six_each well.t in
          let g = ap length well.kept.stands.is ∙ ap length whole ∙ length-drop 6 s in
          let m = length-bytes well.t in
          let a : r.records ≡ record_count (figure well.t) = omega (arith, c.records_are, well.records_are) in
          let d : r.headers ≡ headers (figure well.t) = omega (arith, c.headers_are, well.records_are) in
          let f : r.skipped ≡ skipped (figure well.t) = omega (arith, c.skipped_are, well.skipped_are) in
          let e : r.own ≡ owned (figure well.t) = omega (arith, c.own_is, well.records_are, well.skipped_are) in
          same-counts r (counts_of well.t) a d e f

      pub figure-accepted : shut ≡ (Ok tt) → (r : Counts) → CountsAre (n + 1) k (length s) r → Ok r ≡ check_of (figure_answer s)
      figure-accepted e r c =
          go (broken (end_conditions (told s) 0 well.t)) (subst (ShutIs (broken (end_conditions (told s) 0 well.t))) e at-end) ∙
          sym (ap check_of (answer-is ∙ ap (ended (told s) 0) well.is))
        where
          go : (x : Option Refusal) → ShutIs x (Ok tt) → Ok r ≡ check_of (unless x (accepted well.t))
          go (some x) h = absurd (clash (cc))
          go none h = ap Ok (counts_are r c)
