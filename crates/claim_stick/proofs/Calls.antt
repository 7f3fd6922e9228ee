-- What the calls leave in the record of an item, read back.
use Rattle.studio_rules.specs.declared.Counts.{Counts}
use Rattle.std.specs.Prelude.{Result, Ok, Err}
use mathlib.Core.Path.{◌≡◌, refl, sym, ap, ◌∙◌}
use mathlib.Core.Bool.{Bool, true, false, cond}
use mathlib.Core.List.{List, [], ◌∷◌, ◌++◌, flatten, append-nil}
use Prim.Native.Nat.{ℕ, zero, suc, ◌+◌, ◌-◌, ◌*◌, ◌^◌, ◌<◌, ◌≤◌}
use native.Mathlib.Omega.{arith}
use lib.Dec.{eqb}
use lib.ListN.{length, take, drop, get_or, length-append}
use lib.Seq.{take_at, take-take, drop-drop, drop-append-add, length-take-le}
use borrow.Author.Tests.{eqb-true, eq-eqb}
use Rattle.shared_words.specs.declared.Refusal.{Refusal}
use Rattle.shared_words.specs.Bytes.{value, le, packed}
use Rattle.shared_words.proofs.Bytes.{length-le, length-packed, value-le}
use Rattle.shared_words.proofs.Refusals.{numbered}
use Rattle.shared_numbers.proofs.Slices.{drop-take}
use Rattle.studio_rules.specs.Calls.{check_call}
use Rattle.cob_rules.specs.Calls.{check_call as cob_check_call}
use Rattle.c4d_rules.specs.Calls.{c4d_check_call}
use Rattle.c_codes.specs.Codes.{records_or, count_or}
use Rattle.c_sums.specs.Numbers.{with_part_number, sum_by_parts}
use Rattle.claim_numbers.specs.Tells.{Tells}
use Rattle.claim_numbers.specs.Studio.{CheckTold}
use Rattle.claim_numbers.specs.Caligari.{CountTold}
use Rattle.claim_numbers.specs.Cinema.{ObjectsTold}
use Rattle.claim_numbers.proofs.Told.{told}
use Rattle.stick_rules.specs.Names.{format_of, studio_ending, cob_ending, c4d_ending, ends_as}
use Rattle.stick_rules.specs.Records.{eight_at}
use Rattle.stick_evidence.specs.Evidence.{answer_of, too_long, is_more, file_numbers, numbers_of_more, ending, put_in_item, file_call, more_call}
use Rattle.claim_stick.specs.Calls.{grown, gathered, CallsGather}

-- ---- numbers of eight bytes, read back

piece : (ns : List ℕ) (i : ℕ) → i < length ns → take 8 (drop (8 * i) (packed 8 ns)) ≡ le 8 (get_or ns i 0)
piece [] i h = absurd (omega arith)
piece (n ∷ ns) zero h = take_at (le 8 n) (packed 8 ns) 8 (length-le 8 n)
piece (n ∷ ns) (suc i) h =
    let e : 8 * suc i ≡ length (le 8 n) + 8 * i = omega (arith, length-le 8 n) in
    ap (λ (k : ℕ). take 8 (drop k (le 8 n ++ packed 8 ns))) e ∙ ap (take 8) (drop-append-add (le 8 n) (packed 8 ns) (8 * i)) ∙ piece ns i (omega arith)

read_back : (item : List ℕ) (at : ℕ) (ns : List ℕ) (i o : ℕ) → at ≤ length item → i < length ns → o ≡ at + 8 * i → get_or ns i 0 < 256 ^ 8 →
    eight_at (ending item at ns) o ≡ get_or ns i 0
unfolding eight_at
read_back item at ns i o h l e s =
    let p : o ≡ length (take at item) + 8 * i = omega (arith, e, length-take-le at item h) in
    ap (λ (k : ℕ). value (take 8 (drop k (take at item ++ packed 8 ns)))) p ∙
    ap (λ (x : List ℕ). value (take 8 x)) (drop-append-add (take at item) (packed 8 ns) (8 * i)) ∙
    ap value (piece ns i l) ∙ value-le 8 (get_or ns i 0) s

-- ---- every number fits

told-fits : (r : Refusal) (n : ℕ) → Tells r n → n < 256 ^ 8
told-fits r n t = omega (arith, t.number, (numbered r).to)

studio_fits : (c : Result Counts Refusal) (n : ℕ) → CheckTold c n → n < 256 ^ 8
studio_fits (Ok c) n t = omega (arith, t)
studio_fits (Err r) n t = told-fits r n t

cob_fits : (c : Result ℕ Refusal) (n : ℕ) → CountTold c n → n < 256 ^ 8
cob_fits (Ok c) n t = omega (arith, t)
cob_fits (Err r) n t = told-fits r n t

c4d_fits : (c : Result ℕ Refusal) (n : ℕ) → ObjectsTold c n → n < 256 ^ 8
c4d_fits (Ok c) n t = omega (arith, t)
c4d_fits (Err r) n t = told-fits r n t

answer-fits : (k : ℕ) (s : List ℕ) → answer_of k s < 256 ^ 8
answer-fits k s = go (eqb k 1) (eqb k 2) (eqb k 3)
  where
    go : (a b c : Bool) → cond a (records_or (check_call s)) (cond b (count_or (cob_check_call s)) (cond c (count_or (c4d_check_call s)) 0)) < 256 ^ 8
    go true b c = studio_fits (check_call s) (records_or (check_call s)) (told.studio.check s)
    go false true c = cob_fits (cob_check_call s) (count_or (cob_check_call s)) (told.caligari.check s)
    go false false true = c4d_fits (c4d_check_call s) (count_or (c4d_check_call s)) (told.cinema.check s)
    go false false false = omega arith

sum_fits : (n : ℕ) (part : List ℕ) → with_part_number n part < 256 ^ 8
sum_fits n part = omega arith

format_fits : (path : List ℕ) → format_of path < 256 ^ 8
unfolding format_of
format_fits path = go (ends_as studio_ending path) (ends_as cob_ending path) (ends_as c4d_ending path)
  where
    go : (a b c : Bool) → cond a 1 (cond b 2 (cond c 3 0)) < 256 ^ 8
    go true b c = omega arith
    go false true c = omega arith
    go false false true = omega arith
    go false false false = omega arith

-- ---- a record that holds a sum, a reader and an answer

record Holds (item : List ℕ) (n k a : ℕ) : Type 0 where
  long : length item ≡ 56
  sum_is : eight_at item 32 ≡ n
  reader_is : eight_at item 40 ≡ k
  answer-is : eight_at item 48 ≡ a
  reader_fits : k < 256 ^ 8
  answer_small : a < 256 ^ 8

in_item : (item item' : List ℕ) → length item ≡ 56 → (put_in_item item item').rows ≡ item'
in_item item item' h = rw (eq-eqb (length item) 56 h)

ending-length : (item : List ℕ) (at : ℕ) (ns : List ℕ) → at ≤ length item → length (ending item at ns) ≡ at + 8 * length ns
ending-length item at ns h = omega (arith, length-append (take at item) (packed 8 ns), length-take-le at item h, length-packed 8 ns)

file-holds : (path : List ℕ) (size : ℕ) (s item : List ℕ) → length item ≡ 56 →
    Holds (file_call path size s item).rows (with_part_number 0 s) (format_of path) (answer_of (format_of path) s)
file-holds path size s item h =
    let ns = file_numbers path size s in
    let e = in_item item (ending item 16 ns) h in
    record {
      long = ap length e ∙ omega (arith, ending-length item 16 ns (omega arith));
      sum_is = ap (λ (x : List ℕ). eight_at x 32) e ∙ read_back item 16 ns 2 32 (omega arith) (omega arith) refl (sum_fits 0 s);
      reader_is = ap (λ (x : List ℕ). eight_at x 40) e ∙ read_back item 16 ns 3 40 (omega arith) (omega arith) refl (format_fits path);
      answer-is = ap (λ (x : List ℕ). eight_at x 48) e ∙ read_back item 16 ns 4 48 (omega arith) (omega arith) refl (answer-fits (format_of path) s);
      reader_fits = format_fits path;
      answer_small = answer-fits (format_of path) s;
    }

abbrev next : ℕ → List ℕ → ℕ → ℕ
next k part a = cond (is_more k part) too_long a

next_fits : (k : ℕ) (part : List ℕ) (a : ℕ) → a < 256 ^ 8 → next k part a < 256 ^ 8
next_fits k part a h = go (is_more k part)
  where
    go : (b : Bool) → cond b too_long a < 256 ^ 8
    go true = omega arith
    go false = h

more-holds : (part item : List ℕ) (n k a : ℕ) → Holds item n k a → Holds (more_call part item).rows (with_part_number n part) k (next k part a)
more-holds part item n k a g =
    let ns = numbers_of_more part item in
    let e = in_item item (ending item 32 ns) g.long in
    let l : 32 ≤ length item = omega (arith, g.long) in
    let r : eight_at item 40 < 256 ^ 8 = rw g.reader_is g.reader_fits in
    let d : next (eight_at item 40) part (eight_at item 48) ≡ next k part a =
    ap (λ (x : ℕ). next x part (eight_at item 48)) g.reader_is ∙ ap (λ (x : ℕ). next k part x) g.answer-is in
    let f = next_fits k part a g.answer_small in
    let f' : next (eight_at item 40) part (eight_at item 48) < 256 ^ 8 = omega (arith, d, f) in
    record {
      long = ap length e ∙ omega (arith, ending-length item 32 ns l);
      sum_is = ap (λ (x : List ℕ). eight_at x 32) e ∙ read_back item 32 ns 0 32 l (omega arith) refl (sum_fits (eight_at item 32) part) ∙
          ap (λ (x : ℕ). with_part_number x part) g.sum_is;
      reader_is = ap (λ (x : List ℕ). eight_at x 40) e ∙ read_back item 32 ns 1 40 l (omega arith) refl r ∙ g.reader_is;
      answer-is = ap (λ (x : List ℕ). eight_at x 48) e ∙ read_back item 32 ns 2 48 l (omega arith) refl f' ∙ d;
      reader_fits = g.reader_fits;
      answer_small = f;
    }

-- ---- all parts

abbrev final : ℕ → ℕ → List (List ℕ) → ℕ
final k a [] = a
final k a (part ∷ parts) = final k (next k part a) parts

grown-holds : (parts : List (List ℕ)) (item : List ℕ) (n k a : ℕ) → Holds item n k a → Holds (grown item parts) (sum_by_parts n parts) k (final k a parts)
grown-holds [] item n k a g = g
grown-holds (part ∷ parts) item n k a g =
    grown-holds parts (more_call part item).rows (with_part_number n part) k (next k part a) (more-holds part item n k a g)

-- an answer that is no refusal is the first one, and nothing came after it
record Alone (k a : ℕ) (parts : List (List ℕ)) : Type 0 where
  same : final k a parts ≡ a
  alone : (k ≡ 0 → ⊥) → flatten parts ≡ []

no_bytes : (part : List ℕ) → length part ≡ 0 → part ≡ []
no_bytes [] h = refl
no_bytes (x ∷ part) h = absurd (omega arith)

alone : (k a : ℕ) (parts : List (List ℕ)) → final k a parts < 2 ^ 32 → Alone k a parts
unfolding flatten
alone k a [] h = record { same = refl; alone = λ _. refl }
alone k a (part ∷ parts) h = go (eqb k 0) refl (eqb (length part) 0) refl (alone k (next k part a) parts h)
  where
    go : (x : Bool) → eqb k 0 ≡ x → (y : Bool) → eqb (length part) 0 ≡ y → Alone k (next k part a) parts → Alone k a (part ∷ parts)
    go true p y q r =
        let e : next k part a ≡ a = rw p in
        record { same = r.same ∙ e; alone = λ z. absurd (z (eqb-true k 0 p)) }
    go false p true q r =
        let e : next k part a ≡ a = rw (p, q) in
        let n = no_bytes part (eqb-true (length part) 0 q) in
        record { same = r.same ∙ e; alone = λ z. rw n (r.alone z) }
    go false p false q r =
        let e : next k part a ≡ too_long = rw (p, q) in
        absurd (omega (arith, h, r.same, e))

-- a number of the i-th record
slot : (s : List ℕ) (at o : ℕ) → o + 8 ≤ 56 → eight_at s (at + o) ≡ eight_at (take 56 (drop at s)) o
unfolding eight_at
slot s at o h =
    let z : 56 ≡ o + (56 - o) = omega arith in
    let e : drop o (take 56 (drop at s)) ≡ take (56 - o) (drop (at + o) s) =
    ap (λ (k : ℕ). drop o (take k (drop at s))) z ∙ drop-take o (56 - o) (drop at s) ∙ ap (take (56 - o)) (drop-drop o at s) in
    sym (ap (λ (x : List ℕ). value (take 8 x)) e ∙ ap value (take-take 8 (56 - o) (drop (at + o) s) (omega arith)))

pub calls_gather : CallsGather
unfolding flatten
calls_gather names items path size first parts item i h q b =
    let g = grown-holds parts (file_call path size first item).rows (with_part_number 0 first) (format_of path) (answer_of (format_of path) first) (file-holds path size first item h) in
    let at : (o n : ℕ) → o + 8 ≤ 56 → eight_at (gathered path size first parts item) o ≡ n → eight_at items (56 * i + o) ≡ n =
    λ o n f e. slot items (56 * i) o f ∙ ap (λ (x : List ℕ). eight_at x o) q ∙ e in
    let answer = at 48 (final (format_of path) (answer_of (format_of path) first) parts) (omega arith) g.answer-is in
    record {
      are_bytes = b;
      parts = first ∷ parts;
      all-parts = refl;
      sum_is = at 32 (sum_by_parts (with_part_number 0 first) parts) (omega arith) g.sum_is;
      answer-is = λ l.
          let w = alone (format_of path) (answer_of (format_of path) first) parts (omega (arith, l, answer)) in
          answer ∙ w.same ∙ same_answer (format_of path) w.alone ∙
          ap (λ (k : ℕ). answer_of k (first ++ flatten parts)) (sym (at 40 (format_of path) (omega arith) g.reader_is));
    }
  where
    same_answer : (k : ℕ) → ((k ≡ 0 → ⊥) → flatten parts ≡ []) → answer_of k first ≡ answer_of k (first ++ flatten parts)
    same_answer zero f = refl
    same_answer (suc k) f = let e = f (λ z. omega (arith, z)) in rw (e, append-nil first)
