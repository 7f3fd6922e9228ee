-- One item judged, and the flags after it.
use Rattle.std.specs.Prelude.{Result, Ok, Err}
use mathlib.Core.Path.{◌≡◌, refl, sym, ap, ◌∙◌}
use mathlib.Core.Bool.{Bool, true, false, not, ◌||◌, true≢false, cond}
use mathlib.Core.List.{List, ◌∷◌}
use Prim.Native.Nat.{ℕ, zero, suc, ◌+◌, ◌*◌, ◌<◌, ◌≤◌}
use native.Mathlib.Omega.{arith}
use lib.Dec.{eqb, ltb, leb}
use lib.ListN.{length, get_or, set, length-set}
use lib.Seq.{get_or-set_same, get_or-set_other}
use borrow.Author.Tests.{eqb-true, eq-eqb, ne_eqb, lt-ltb, ltb-true, le-ltb, leb-true}
use Rattle.shared_words.proofs.Bools.{both, and_parts}
use Rattle.slip_rules.specs.Slip.{Entry}
use Rattle.slip_check.specs.Entries.{next_at, entries_in}
use Rattle.stick_names.proofs.Alike.{part_length}
use Rattle.shared_words.specs.declared.Refusal.{Refusal}
use Rattle.shared_words.specs.declared.Refusal.TheVariants.{Unchecked, Unexpected}
use Rattle.stick_rules.specs.declared.ItemRecord.{ItemRecord}
use Rattle.shared_words.specs.Conditions.{answered, broken}
use Rattle.stick_rules.proofs.Answers.{never}
use Rattle.stick_rules.specs.Items.{Item, is_file, is_folder, is_short, is_listed}
use Rattle.stick_rules.specs.Judge.{manifest, entry_index, Target, is_target, is_matched, is_no_entry, item_conditions}
use Rattle.stick_rules.specs.Records.{seen, item_of}
use Rattle.stick_judge.specs.declared.Sought.{Sought}
use Rattle.stick_judge.specs.Judging.{FindsEntry, evidence, Flags, JudgesItem}

length_in : (slip : List ℕ) (n o : ℕ) → length (entries_in n slip o) ≡ n
length_in slip zero o = refl
length_in slip (suc n) o = ap suc (length_in slip n (next_at slip o))

pub length_expected : (slip : List ℕ) (n : ℕ) → length (manifest slip (entries_in n slip 7)) ≡ n + 1
length_expected slip n = omega (arith, length_in slip n 7)

-- a row that is seen as something has its path among the names
pub seen-within : (names : List ℕ) (r : ItemRecord) → ((seen names r).kind ≡ 0 → ⊥) → r.name + r.len ≤ length names
seen-within names r n = go (leb (r.name + r.len) (length names)) refl n
  where
    go : (b : Bool) → leb (r.name + r.len) (length names) ≡ b → (cond b r.kind 0 ≡ 0 → ⊥) → r.name + r.len ≤ length names
    go true q n = leb-true _ _ q
    go false q n = absurd (n refl)

-- ---- flags

-- one more is set
pub marks-more : (flags : List ℕ) (matched : List Target) (x : Target) → x.up_to < 64 → 64 * x.entry + x.up_to < length flags → Flags flags matched →
    Flags (set flags (64 * x.entry + x.up_to) 1) (x ∷ matched)
marks-more flags matched x s l m k n h p = go (is_target k n x) refl
  where
    go : (b : Bool) → is_target k n x ≡ b → not (eqb (get_or (set flags (64 * x.entry + x.up_to) 1) (64 * k + n) 0) 0) ≡ (b || is_matched k n matched)
    go true q =
        let p = and_parts (eqb k x.entry) (eqb n x.up_to) q in
        let e = eqb-true k x.entry p.0 in
        let u = eqb-true n x.up_to p.1 in
        rw (e, u, get_or-set_same flags (64 * x.entry + x.up_to) 1 0 l)
    go false q =
        let other : 64 * k + n ≡ 64 * x.entry + x.up_to → ⊥ = λ e.
        let i : k ≡ x.entry = omega (arith, e) in
        let j : n ≡ x.up_to = omega (arith, e) in
        true≢false (sym (both (eqb k x.entry) (eqb n x.up_to) (eq-eqb _ _ i) (eq-eqb _ _ j)) ∙ q) in
        rw (get_or-set_other flags (64 * x.entry + x.up_to) (64 * k + n) 1 0 other) (m k n h (omega (arith, length-set flags (64 * x.entry + x.up_to) 1)))

-- a flag that is set, and one that is not
pub flag_set : (flags : List ℕ) (matched : List Target) → Flags flags matched → (k n : ℕ) → n < 64 → 64 * k + n < length flags →
    (get_or flags (64 * k + n) 0 ≡ 0 → ⊥) → is_matched k n matched ≡ true
flag_set flags matched m k n h l f = sym (m k n h l) ∙ rw (ne_eqb _ _ f)

pub flag_unset : (flags : List ℕ) (matched : List Target) → Flags flags matched → (k n : ℕ) → n < 64 → 64 * k + n < length flags →
    get_or flags (64 * k + n) 0 ≡ 0 → is_matched k n matched ≡ false
flag_unset flags matched m k n h l f = sym (m k n h l) ∙ rw (eq-eqb _ _ f)

-- ---- a file

module _ (es : List Entry) (n : ℕ) (t : Item) (flags : List ℕ) where
  -- it is refused, and no flag is set
  abbrev pub Stops : Refusal → Type 0
  Stops p = JudgesItem es n t flags (Err p) flags

  module _ (f : is_file t ≡ true) where
    pub file_nameless : eqb (length t.path) 0 ≡ true → Stops (Unexpected n)
    unfolding item_conditions answered broken
    file_nameless z = record { long = refl; judges = λ matched m. record { is = rw (f, z); marks = never (Unexpected n) } }

    module _ (z : eqb (length t.path) 0 ≡ false) where
      pub file-not-on : length es ≤ entry_index true es t.path → Stops (Unexpected n)
      unfolding item_conditions answered broken
      file-not-on l =
          let o : ltb (entry_index true es t.path) (length es) ≡ false = le-ltb (entry_index true es t.path) (length es) l in
          record { long = refl; judges = λ matched m. record { is = rw (f, z, o); marks = never (Unexpected n) } }

      pub file-again : entry_index true es t.path < length es → 64 * entry_index true es t.path + 0 < length flags →
          (get_or flags (64 * entry_index true es t.path + 0) 0 ≡ 0 → ⊥) → Stops (Unexpected n)
      unfolding item_conditions answered broken
      file-again l p g =
          let o = lt-ltb (entry_index true es t.path) (length es) l in
          record {
            long = refl;
            judges = λ matched m.
                let a = flag_set flags matched m (entry_index true es t.path) 0 (omega arith) p g in
                record { is = rw (f, z, o, a); marks = never (Unexpected n) };
          }

      pub file-judged : (s : Sought) (r : Result Unit Refusal) → FindsEntry true es t.path s → 64 * s.number + 0 < length flags →
          get_or flags (64 * s.number + 0) 0 ≡ 0 → r ≡ answered (evidence n s.file s.sums t) →
          JudgesItem es n t flags r (set flags (64 * s.number + 0) 1)
      unfolding item_conditions answered broken
      file-judged s r d p g q =
          let o = lt-ltb s.number (length es) d.within in
          let e = d.numbered in
          record {
            long = length-set flags (64 * s.number + 0) 1;
            judges = λ matched m.
                let a = flag_unset flags matched m s.number 0 (omega arith) p g in
                record {
                  is = q ∙ rw (f, z, ← e, o, a, d.long refl t, d.summed refl t);
                  marks = λ _. rw (f, ← e) (marks-more flags matched (record { entry = s.number; up_to = 0 }) (omega arith) p m);
                };
          }

  -- ---- a folder

  module _ (z : is_file t ≡ false) where
    pub not-folder : is_folder t ≡ false → Stops (Unchecked n)
    unfolding item_conditions answered broken
    not-folder i = record { long = refl; judges = λ matched m. record { is = rw (z, i); marks = never (Unchecked n) } }

    module _ (i : is_folder t ≡ true) where
      pub folder_nameless : eqb (length t.path) 0 ≡ true → Stops (Unexpected n)
      unfolding item_conditions answered broken
      folder_nameless b = record { long = refl; judges = λ matched m. record { is = rw (z, i, b); marks = never (Unexpected n) } }

      module _ (b : eqb (length t.path) 0 ≡ false) where
        pub folder-long : is_short t ≡ false → Stops (Unexpected n)
        unfolding item_conditions answered broken
        folder-long s = record { long = refl; judges = λ matched m. record { is = rw (z, i, b, s); marks = never (Unexpected n) } }

        module _ (s : is_short t ≡ true) where
          pub folder-file : is_no_entry es t ≡ false → Stops (Unexpected n)
          unfolding item_conditions answered broken
          folder-file f = record { long = refl; judges = λ matched m. record { is = rw (z, i, b, s, f); marks = never (Unexpected n) } }

          module _ (f : is_no_entry es t ≡ true) where
            pub folder_off : ltb (entry_index false es t.path) (length es) ≡ false → Stops (Unexpected n)
            unfolding item_conditions answered broken
            folder_off o = record { long = refl; judges = λ matched m. record { is = rw (z, i, b, s, f, o); marks = never (Unexpected n) } }

            module _ (o : ltb (entry_index false es t.path) (length es) ≡ true) (l : 64 * entry_index false es t.path + length t.path < length flags) where
              abbrev x : Target
              x = record { entry = entry_index false es t.path; up_to = length t.path }

              abbrev at : ℕ
              at = 64 * entry_index false es t.path + length t.path

              pub folder-again : (get_or flags at 0 ≡ 0 → ⊥) → Stops (Unexpected n)
              unfolding item_conditions answered broken
              folder-again g = record {
                long = refl;
                judges = λ matched m.
                    let a = flag_set flags matched m x.entry x.up_to (ltb-true _ _ s) l g in
                    record { is = rw (z, i, b, s, f, o, a); marks = never (Unexpected n) };
              }

              pub folder-unlisted : get_or flags at 0 ≡ 0 → is_listed t ≡ false → JudgesItem es n t flags (Err (Unchecked n)) (set flags at 1)
              unfolding item_conditions answered broken
              folder-unlisted g y = record {
                long = length-set flags at 1;
                judges = λ matched m.
                    let a = flag_unset flags matched m x.entry x.up_to (ltb-true _ _ s) l g in
                    record { is = rw (z, i, b, s, f, o, a, y); marks = never (Unchecked n) };
              }

              pub folder-good : get_or flags at 0 ≡ 0 → is_listed t ≡ true → JudgesItem es n t flags (Ok tt) (set flags at 1)
              unfolding item_conditions answered broken
              folder-good g y = record {
                long = length-set flags at 1;
                judges = λ matched m.
                    let a = flag_unset flags matched m x.entry x.up_to (ltb-true _ _ s) l g in
                    record { is = rw (z, i, b, s, f, o, a, y); marks = λ _. rw z (marks-more flags matched x (ltb-true _ _ s) l m) };
              }

-- ---- a folder by the numbers of its record, where its path is no entry's

module _ (slip names : List ℕ) (entries : ℕ) (it : ItemRecord) (n : ℕ) (flags : List ℕ) where
  abbrev es : List Entry
  es = manifest slip (entries_in entries slip 7)

  abbrev t : Item
  t = item_of names it

  -- what is known of it before its entry is looked for
  pub record Leading : Type 0 where
    pub is-folder : it.kind ≡ 2
    pub within : it.name + it.len ≤ length names
    pub below : 1 ≤ it.len
    pub short : it.len < 64
    pub no-entry : is_no_entry es t ≡ true
    pub room : 64 * entries + 64 ≤ length flags

  module _ (g : Leading) where
    long : length t.path ≡ it.len
    long = part_length names it.name it.len g.within

    no-file : is_file t ≡ false
    no-file = ne_eqb it.kind 1 (λ q. omega (arith, g.is-folder, q))

    folder-is : is_folder t ≡ true
    folder-is = eq-eqb it.kind 2 g.is-folder

    has_path_lem : eqb (length t.path) 0 ≡ false
    has_path_lem = ne_eqb (length t.path) 0 (λ q. omega (arith, long, q, g.below))

    is-short : is_short t ≡ true
    is-short = lt-ltb (length t.path) 64 (omega (arith, long, g.short))

    pub leads_nowhere : length es ≡ entry_index false es t.path → Stops es n t flags (Unexpected n)
    leads_nowhere l =
        folder_off es n t flags no-file folder-is has_path_lem is-short g.no-entry (le-ltb (entry_index false es t.path) (length es) (omega (arith, l)))

    module _ (r : Sought) (d : FindsEntry false es t.path r) where
      leads : ltb (entry_index false es t.path) (length es) ≡ true
      leads = lt-ltb (entry_index false es t.path) (length es) (omega (arith, d.within, d.numbered))

      flag_is : 64 * r.number + it.len ≡ 64 * entry_index false es t.path + length t.path
      flag_is = omega (arith, d.numbered, long)

      flag_within : 64 * entry_index false es t.path + length t.path < length flags
      flag_within = omega (arith, length_expected slip entries, d.within, d.numbered, long, g.short, g.room)

      pub leads_again : (get_or flags (64 * r.number + it.len) 0 ≡ 0 → ⊥) → Stops es n t flags (Unexpected n)
      leads_again f = folder-again es n t flags no-file folder-is has_path_lem is-short g.no-entry leads flag_within (rw flag_is at f)

      pub leads_unlisted : get_or flags (64 * r.number + it.len) 0 ≡ 0 → it.size ≡ 0 →
          JudgesItem es n t flags (Err (Unchecked n)) (set flags (64 * r.number + it.len) 1)
      leads_unlisted f u =
          rw flag_is (folder-unlisted es n t flags no-file folder-is has_path_lem is-short g.no-entry leads flag_within (rw flag_is at f) (ap not (eq-eqb it.size 0 u)))

      pub leads_good : get_or flags (64 * r.number + it.len) 0 ≡ 0 → (it.size ≡ 0 → ⊥) → JudgesItem es n t flags (Ok tt) (set flags (64 * r.number + it.len) 1)
      leads_good f u =
          rw flag_is (folder-good es n t flags no-file folder-is has_path_lem is-short g.no-entry leads flag_within (rw flag_is at f) (ap not (ne_eqb it.size 0 u)))
