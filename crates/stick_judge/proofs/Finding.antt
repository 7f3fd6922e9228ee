-- The entry of a path, as a loop over the slip looks for it.
use mathlib.Core.Path.{◌≡◌, refl, sym, ap, ◌∙◌}
use mathlib.Core.Bool.{Bool, true, false, not, and-false}
use mathlib.Core.List.{List, [], ◌∷◌}
use mathlib.Core.Option.{Option, some}
use Prim.Native.Nat.{ℕ, zero, suc, ◌+◌, ◌-◌, ◌*◌, ◌<◌, ◌≤◌}
use native.Mathlib.Numerals.{add-one}
use native.Mathlib.Omega.{arith}
use lib.Dec.{eqb}
use lib.ListN.{length, take, drop, get_or}
use lib.Seq.{drop-drop}
use borrow.Author.Tests.{not-true}
use Rattle.shared_words.specs.Lists.{every}
use Rattle.shared_words.proofs.Bools.{and_parts}
use Rattle.shared_words.specs.Bytes.{value_be, be_at}
use Rattle.shared_numbers.proofs.At.{head_is}
use Rattle.slip_check.proofs.Good.{first-is, second_is}
use Rattle.slip_rules.specs.Slip.{Entry}
use Rattle.slip_rules.specs.Walk.{entry_at}
use Rattle.slip_check.specs.Entries.{entry_in, next_at, entries_in, after, Whole}
use Rattle.slip_check.proofs.Walks.{after_more}
use Rattle.slip_check.proofs.Names.{whole-first, whole-on}
use Rattle.stick_rules.specs.Names.{lower, equal_ignoring_case, is_inside, belongs, slip_name}
use Rattle.stick_rules.specs.Items.{has_length_of, has_sums_of}
use Rattle.stick_rules.specs.Judge.{slip_entry, manifest, entry_index, entry_of, entry_is}
use Rattle.stick_judge.specs.declared.Sought.{Sought}
use Rattle.stick_judge.specs.Judging.{Is, FindsEntry}

-- the first entry is that of the path, or it is looked for in the rest
module _ (e : Entry) (es : List Entry) (path : List ℕ) where
  place_here : (file : Bool) → belongs file e.name path ≡ true → entry_index file (e ∷ es) path ≡ 0
  unfolding entry_index
  place_here file h = rw h

  place-later : (file : Bool) → belongs file e.name path ≡ false → entry_index file (e ∷ es) path ≡ suc (entry_index file es path)
  unfolding entry_index
  place-later file h = rw h

  entry_here : (file : Bool) → file ≡ true → belongs file e.name path ≡ true → entry_of (e ∷ es) path ≡ some e
  unfolding entry_of
  entry_here file f h = let a : equal_ignoring_case e.name path ≡ true = rw f at h in rw a

  entry-later : (file : Bool) → file ≡ true → belongs file e.name path ≡ false → entry_of (e ∷ es) path ≡ entry_of es path
  unfolding entry_of
  entry-later file f h = let a : equal_ignoring_case e.name path ≡ false = rw f at h in rw a

-- what is found where the entry of the path is e
finds : (file : Bool) (all : List Entry) (path : List ℕ) (e : Entry) (n : ℕ) (r : Sought) → Is e n r → n < length all → n ≡ entry_index file all path →
    (file ≡ true → entry_of all path ≡ some e) → FindsEntry file all path r
finds file all path e n r i l p q = record {
  within = omega (arith, i.numbered);
  numbered = i.numbered ∙ p;
  long = λ f t. ap (λ (o : Option Entry). entry_is has_length_of o t) (q f) ∙ rw i.file-is;
  summed = λ f t. ap (λ (o : Option Entry). entry_is has_sums_of o t) (q f) ∙ rw i.sums_is;
}

-- ---- the search: the k entries before offset o do not belong to the path

module _ (file : Bool) (slip path : List ℕ) (entries : ℕ) where
  abbrev all : List Entry
  all = manifest slip (entries_in entries slip 7)

  pub record Seeks (k o : ℕ) : Type 0 where
    pub few : k ≤ entries
    pub whole : Whole (entries - k) slip o
    pub stands : o ≡ after k slip 7
    pub placed : entry_index file all path ≡ k + 1 + entry_index file (entries_in (entries - k) slip o) path
    pub entered : file ≡ true → entry_of all path ≡ entry_of (entries_in (entries - k) slip o) path

  length_in : (n o : ℕ) → length (entries_in n slip o) ≡ n
  length_in zero o = refl
  length_in (suc n) o = ap suc (length_in n (next_at slip o))

  pub seeks_own : (r : Sought) → belongs file slip_name path ≡ true → Is (slip_entry slip) 0 r → FindsEntry file all path r
  seeks_own r h i =
      finds file all path (slip_entry slip) 0 r i (omega arith) (sym (place_here (slip_entry slip) (entries_in entries slip 7) path file h))
      (λ f. entry_here (slip_entry slip) (entries_in entries slip 7) path file f h)

  pub seeks_start : belongs file slip_name path ≡ false → Whole entries slip 7 → Seeks 0 7
  seeks_start h w =
      let z : entries - 0 ≡ entries = omega arith in
      record {
        few = omega arith;
        whole = rw z w;
        stands = refl;
        placed = rw z (place-later (slip_entry slip) (entries_in entries slip 7) path file h ∙ omega arith);
        entered = λ f. rw z (entry-later (slip_entry slip) (entries_in entries slip 7) path file f h);
      }

  module _ (k o : ℕ) (s : Seeks k o) (l : k < entries) where
    pub here : next_at slip o ≤ length slip
    here = whole-first slip o (entries - k) (omega arith) s.whole

    first_of : (n : ℕ) → 0 < n → entries_in n slip o ≡ entry_in slip o ∷ entries_in (n - 1) slip (next_at slip o)
    first_of zero p = absurd (omega arith)
    first_of (suc n) p = let z : suc n - 1 ≡ n = omega arith in rw z

    abbrev split : entries_in (entries - k) slip o ≡ entry_in slip o ∷ entries_in (entries - k - 1) slip (next_at slip o)
    split = first_of (entries - k) (omega arith)

    abbrev others : List Entry
    others = entries_in (entries - k - 1) slip (next_at slip o)

    placed-here : entry_index file all path ≡ k + 1 + entry_index file (entry_in slip o ∷ others) path
    placed-here = s.placed ∙ ap (λ (x : List Entry). k + 1 + entry_index file x path) split

    entered_here : file ≡ true → entry_of all path ≡ entry_of (entry_in slip o ∷ others) path
    entered_here f = s.entered f ∙ ap (λ (x : List Entry). entry_of x path) split

    pub seeks_found : (r : Sought) → belongs file (entry_in slip o).name path ≡ true → Is (entry_in slip o) (k + 1) r → FindsEntry file all path r
    seeks_found r h i =
        finds file all path (entry_in slip o) (k + 1) r i (omega (arith, length_in entries 7)) (omega (arith, placed-here, place_here (entry_in slip o) others path file h))
        (λ f. entered_here f ∙ entry_here (entry_in slip o) others path file f h)

    pub seeks_on : belongs file (entry_in slip o).name path ≡ false → Seeks (k + 1) (next_at slip o)
    seeks_on h =
        let z : entries - (k + 1) ≡ entries - k - 1 = omega arith in
        record {
          few = omega arith;
          whole = rw z (whole-on slip o (entries - k) (omega arith) s.whole);
          stands = rw (add-one k) (ap (next_at slip) s.stands ∙ sym (after_more k slip 7));
          placed = rw z (omega (arith, placed-here, place-later (entry_in slip o) others path file h));
          entered = λ f. rw z (entered_here f ∙ entry-later (entry_in slip o) others path file f h);
        }

  pub seeks_end : (k o : ℕ) → Seeks k o → entries ≤ k → length all ≡ entry_index file all path
  unfolding entry_index
  seeks_end k o s l =
      let z : entries - k ≡ 0 = omega arith in
      let p : entry_index file all path ≡ k + 1 + 0 = rw z at s.placed in
      omega (arith, p, s.few, length_in entries 7)

-- no file stands in the slip

no_slash : (name path : List ℕ) → every (λ (b : ℕ). not (eqb b 47)) name ≡ true → is_inside name path ≡ false
unfolding is_inside every
no_slash [] [] h = refl
no_slash [] (x ∷ path) h = refl
no_slash (y ∷ name) [] h = not-true _ (and_parts (not (eqb y 47)) (every (λ (b : ℕ). not (eqb b 47)) name) h).0
no_slash (y ∷ name) (x ∷ path) h =
    rw (no_slash name path (and_parts (not (eqb y 47)) (every (λ (b : ℕ). not (eqb b 47)) name) h).1, and-false (eqb (lower y) (lower x)))

pub not_in_slip : (path : List ℕ) → is_inside slip_name path ≡ false
unfolding every
not_in_slip path = no_slash slip_name path refl

-- ---- an entry that stands at an offset of the slip

file-at : (s : List ℕ) (o : ℕ) → (entry_in s o).file ≡ be_at (o + 1 + get_or s o 0) 4 s
unfolding entry_at
file-at s o =
    let n = get_or (drop o s) 0 0 in
    let k : o + (1 + n) ≡ o + 1 + get_or s o 0 = omega (arith, head_is s o) in
    ap (λ (x : List ℕ). value_be (take 4 x)) (drop-drop n 1 (drop o s) ∙ drop-drop (1 + n) o s ∙ ap (λ (i : ℕ). drop i s) k)

pub entry-is : (s : List ℕ) (o len number : ℕ) (r : Sought) → next_at s o ≤ length s → len ≡ get_or s o 0 → r.number ≡ number →
    r.file ≡ be_at (o + 1 + len) 4 s → r.sums ≡ get_or s (o + 5 + len) 0 + 256 * get_or s (o + 5 + len + 1) 0 → Is (entry_in s o) number r
entry-is s o len number r h l n f m =
    let f' : r.file ≡ be_at (o + 1 + get_or s o 0) 4 s = rw l at f in
    let m' : r.sums ≡ get_or s (o + 5 + get_or s o 0) 0 + 256 * get_or s (o + 5 + get_or s o 0 + 1) 0 = rw l at m in
    let a = first-is [] s o (omega arith) in
    let b = second_is [] s o (omega arith) in
    record { numbered = n; file-is = f' ∙ sym (file-at s o); sums_is = omega (arith, m', a, b) }
