-- A pass is sure.
use Rattle.std.specs.Prelude.{Ok, Err}
use mathlib.Core.Path.{◌≡◌, refl, ap, ◌∙◌, subst}
use mathlib.Core.Bool.{Bool, true, false, cond}
use mathlib.Core.List.{List, [], ◌∷◌, tail}
use mathlib.Core.Option.{some}
use Prim.Native.Nat.{ℕ, ◌-◌, ◌*◌, ◌/◌, ◌%◌, ◌^◌, ◌<◌, ◌≤◌}
use native.Mathlib.Omega.{arith}
use lib.Dec.{eqb, leb}
use lib.ListN.{length, length-append}
use borrow.Author.Tests.{eqb-true, leb-true}
use Rattle.shared_words.specs.Bytes.{Bytes}
use Rattle.shared_words.specs.Lists.{All, Pairwise}
use Rattle.shared_words.specs.declared.Refusal.{Refusal}
use Rattle.shared_words.specs.Conditions.{Answer, refused, accepted}
use Rattle.shared_words.proofs.Bools.{and_parts}
use Rattle.shared_words.proofs.Refusals.{numbered}
use Rattle.studio_rules.specs.Layout.{Run}
use Rattle.studio_rules.specs.Rules.{Meets as MeetsStudio}
use Rattle.studio_rules.specs.Walk.{verdict as studio_verdict}
use Rattle.studio_rules.specs.Calls.{check_of, check_call}
use Rattle.studio_rules.proofs.Verdict.{accepted_exactly as studio_exactly}
use Rattle.cob_rules.specs.Layout.{Layout as CobLayout}
use Rattle.cob_rules.specs.Rules.{Meets as MeetsCob}
use Rattle.cob_rules.specs.Calls.{check_of as cob_check_of, check_call as cob_check_call}
use Rattle.cob_rules.specs.Walk.{verdict as cob_verdict}
use Rattle.cob_rules.proofs.Verdict.{accepted_exactly as cob_exactly}
use Rattle.c4d_rules.specs.Layout.{Layout as C4dLayout}
use Rattle.c4d_rules.specs.Rules.{Meets as MeetsC4d}
use Rattle.c4d_rules.specs.Calls.{check_of as c4d_check_of, c4d_check_call}
use Rattle.c4d_rules.specs.Walk.{verdict as c4d_verdict}
use Rattle.c4d_rules.proofs.Verdict.{accepted_exactly as c4d_exactly}
use Rattle.slip_sums.specs.Fletcher.{total, running, sum_of}
use Rattle.slip_rules.specs.Slip.{Entry, behind_name, entry_bytes, all_bytes}
use Rattle.slip_rules.specs.Rules.{remember, AllLawful, Meets}
use Rattle.slip_rules.specs.Walk.{Entries, verdict as slip_verdict}
use Rattle.slip_rules.proofs.Verdict.{accepted_exactly as slip-exactly}
use Rattle.c_codes.specs.Codes.{refusal_code, records_or, count_or}
use Rattle.c_sums.specs.Numbers.{part_number}
use Rattle.c_sums.proofs.Numbers.{number_by_parts}
use Rattle.shared_words.specs.declared.Refusal.TheVariants.{Unchecked}
use Rattle.stick_rules.specs.Names.{equal_ignoring_case, format_of}
use Rattle.stick_rules.specs.Items.{Item, is_read, sums_of}
use Rattle.stick_rules.specs.Judge.{manifest, entry_of, judgement}
use Rattle.stick_rules.specs.Records.{item_count, items_in, judge_records, judge_call}
use Rattle.stick_rules.specs.Theorems.{agrees, InOrder, IsRoot, Rooted}
use Rattle.stick_rules.specs.Theorems.InOrder.{folder, file}
use Rattle.stick_rules.proofs.Answers.{never}
use Rattle.stick_rules.proofs.Exact.{passes_exactly}
use Rattle.stick_rules.proofs.Plain.{in_plain_words}
use Rattle.stick_rules.proofs.Distinct.{nothing-more}
use Rattle.c_stick.proofs.One.{pass-is-one}
use Rattle.claim_stick.specs.Evidence.{EvidenceOf, OfFile}
use Rattle.claim_stick.specs.Verified.{InFormat, entry_sum, VerifiedFile, Verified, PassIsVerified}

refusal_large : {A : Type 0} (r : Refusal) → refusal_code r < 2 ^ 32 → A
refusal_large r h = absurd (omega (arith, (numbered r).from))

-- ---- an answer below 2^32 is no refusal

studio_meets : (s : List ℕ) → Bytes s → records_or (check_call s) < 2 ^ 32 → (kids : Run) × MeetsStudio s kids
unfolding check_call
studio_meets s b h = go (studio_verdict s) refl h
  where
    go : (a : Answer Run) → studio_verdict s ≡ a → records_or (check_of a) < 2 ^ 32 → (kids : Run) × MeetsStudio s kids
    go (refused r) q h = refusal_large r h
    go (accepted kids) q h = (kids, (studio_exactly s b kids).0 q)

cob_meets : (s : List ℕ) → count_or (cob_check_call s) < 2 ^ 32 → (l : CobLayout) × MeetsCob s l
unfolding cob_check_call
cob_meets s h = go (cob_verdict s) refl h
  where
    go : (a : Answer CobLayout) → cob_verdict s ≡ a → count_or (cob_check_of a) < 2 ^ 32 → (l : CobLayout) × MeetsCob s l
    go (refused r) q h = refusal_large r h
    go (accepted l) q h = (l, (cob_exactly s l).0 q)

c4d_meets : (s : List ℕ) → count_or (c4d_check_call s) < 2 ^ 32 → (l : C4dLayout) × MeetsC4d s l
unfolding c4d_check_call
c4d_meets s h = go (c4d_verdict s) refl h
  where
    go : (a : Answer C4dLayout) → c4d_verdict s ≡ a → count_or (c4d_check_of a) < 2 ^ 32 → (l : C4dLayout) × MeetsC4d s l
    go (refused r) q h = refusal_large r h
    go (accepted l) q h = (l, (c4d_exactly s l).0 q)

in_format : (s : List ℕ) (t : Item) → EvidenceOf s t → t.reader ≡ format_of t.path → t.answer < 2 ^ 32 → InFormat (format_of t.path) s
in_format s t g j a =
    let h = rw (g.answer-is a) at a in
    record {
      studio = λ f. let k : t.reader ≡ 1 = j ∙ f in studio_meets s g.are_bytes (rw k at h);
      cob = λ f. let k : t.reader ≡ 2 = j ∙ f in cob_meets s (rw k at h);
      c4d = λ f. let k : t.reader ≡ 3 = j ∙ f in c4d_meets s (rw k at h);
    }

-- ---- what stands in an entry can be the length and the sums of a file

record Fine (e : Entry) : Type 0 where
  first_small : e.first ≤ 254
  second_small : e.second ≤ 254
  file_small : e.file < 2 ^ 48 - 1

lawful_fine : (seen : List (List ℕ)) (es : List Entry) → AllLawful seen es → All Fine es
lawful_fine seen [] a = tt
lawful_fine seen (e ∷ es) a =
    let p = and_parts (leb e.first 254) (leb e.second 254) a.0.sums_proper_lem in
    let f = a.0.file-fits in (
      record { first_small = leb-true e.first 254 p.0; second_small = leb-true e.second 254 p.1; file_small = omega arith },
      lawful_fine (remember seen e) es a.1,
    )

all_short : (seen : List (List ℕ)) (es : List Entry) → AllLawful seen es → length (all_bytes es) ≤ 262 * length es
all_short seen [] a = omega arith
all_short seen (e ∷ es) a =
    let p = and_parts (leb 1 (length e.name)) (leb (length e.name) 255) a.0.is-named in
    omega (
      arith,
      leb-true (length e.name) 255 p.1,
      all_short (remember seen e) es a.1,
      length-append (entry_bytes e) (all_bytes es),
      length-append e.name (behind_name e),
    )

slip-short : (slip : List ℕ) (es : List Entry) → Meets slip es → length slip < 2 ^ 48 - 1
slip-short slip es m = let f = m.few in omega (arith, all_short [] es m.lawful, ap length m.is)

all_fine : (slip : List ℕ) (es : List Entry) → Meets slip es → All Fine (manifest slip es)
all_fine slip es m =
    let l = slip-short slip es m in
    (record { first_small = omega arith; second_small = omega arith; file_small = l }, lawful_fine [] es m.lawful)

of_entry : (P : Entry → Type 0) (es : List Entry) → All P es → (path : List ℕ) (e : Entry) → entry_of es path ≡ some e → P e
unfolding entry_of
of_entry P [] a path e h = let z : ◌≡◌ {A = ℕ} 0 1 = cc in absurd (omega arith)
of_entry P (x ∷ es) a path e h = go (of_entry P es a.1 path e) (equal_ignoring_case x.name path) h
  where
    go : (entry_of es path ≡ some e → P e) → (b : Bool) → cond b (some x) (entry_of es path) ≡ some e → P e
    go on true h = let i : x ≡ e = cc in subst P i a.0
    go on false h = on h

-- ---- the bytes are those of the entry

same_sums : (s : List ℕ) (t : Item) (e : Entry) → EvidenceOf s t → agrees e t ≡ true → is_read t ≡ true → Fine e → sum_of s ≡ entry_sum e
same_sums s t e g a r f =
    let n : t.checksum ≡ part_number s = g.sum_is ∙ number_by_parts g.parts ∙ ap part_number g.all-parts in
    let p = and_parts (eqb t.size e.file) (eqb (t.checksum % 65_536) (sums_of e)) a in
    let size = eqb-true t.size e.file p.0 in
    let sums = eqb-true (t.checksum % 65_536) (sums_of e) p.1 in
    let long = eqb-true (t.checksum / 65_536) t.size r in
    let low = f.first_small in
    let high = f.second_small in
    let small = f.file_small in
    let l : length s ≡ e.file = omega arith in
    let x : total s % 255 ≡ e.first = omega arith in
    let y : total (running 0 s) % 255 ≡ e.second = omega arith in
    rw (l, x, y)

sound : (es : List Entry) → All Fine es → (s : List ℕ) (t : Item) → InOrder es t → OfFile EvidenceOf s t → OfFile (VerifiedFile es) s t
sound es fine s t (folder is l) g f =
    let a = eqb-true t.kind 1 f in
    let b = eqb-true t.kind 2 is in
    absurd (omega arith)
sound es fine s t (file e k w q a) g f = record {
  entry = e;
  its_own = q;
  same = same_sums s t e (g f) a.agree a.whole (of_entry Fine es fine t.path e q);
  in_format = in_format s t (g f) a.judged a.accepted;
}

all_sound : (es : List Entry) → All Fine es → (ss : List (List ℕ)) (ts : List Item) → All (InOrder es) ts → Pairwise (OfFile EvidenceOf) ss ts →
    Pairwise (OfFile (VerifiedFile es)) ss ts
all_sound es fine [] [] o g = tt
all_sound es fine [] (t ∷ ts) o g = absurd g
all_sound es fine (s ∷ ss) [] o g = absurd g
all_sound es fine (s ∷ ss) (t ∷ ts) o g = (sound es fine s t o.0 g.0, all_sound es fine ss ts o.1 g.1)

-- the stick's own folder has no bytes
root_sound : (es : List Entry) (s : List ℕ) (t : Item) → IsRoot t → OfFile (VerifiedFile es) s t
root_sound es s t r f =
    let a = eqb-true t.kind 1 f in
    let b = eqb-true t.kind 2 r.is-folder in
    absurd (omega arith)

items_sound : (es : List Entry) → All Fine es → (ss : List (List ℕ)) (ts : List Item) → Rooted ts → All (InOrder es) (tail ts) →
    Pairwise (OfFile EvidenceOf) ss ts → Pairwise (OfFile (VerifiedFile es)) ss ts
items_sound es fine ss [] r o g = absurd r
items_sound es fine [] (t ∷ ts) r o g = absurd g
items_sound es fine (s ∷ ss) (t ∷ ts) r o g = (root_sound es s t r, all_sound es fine ss ts o g.1)

-- ---- the call

good-is_sure : (slip names items : List ℕ) (contents : List (List ℕ)) → Bytes slip → Pairwise (OfFile EvidenceOf) contents (items_in names items) →
    judge_call slip names items ≡ (Ok tt) → Verified slip (items_in names items) contents
unfolding judge_call
good-is_sure slip names items contents b g h = go (slip_verdict slip) refl h
  where
    sure : (es : List Entry) → slip_verdict slip ≡ accepted es → (d : Bool) →
        cond d (judgement (manifest slip es) (items_in names items)) (Err (Unchecked (item_count items))) ≡ (Ok tt) →
        Verified slip (items_in names items) contents
    sure es q false h = never (Unchecked (item_count items)) h
    sure es q true h =
        let m = (slip-exactly slip b es).0 q in
        let o = (passes_exactly (manifest slip es) (items_in names items)).0 h in
        record {
          entries = es;
          is-slip = m;
          every-file = items_sound (manifest slip es) (all_fine slip es m) contents (items_in names items) o.rooted o.in_order g;
          nothing-more = nothing-more (manifest slip es) (items_in names items) h;
          every-entry = (in_plain_words (manifest slip es) (items_in names items) h).every-entry;
        }

    go : (a : Entries) → slip_verdict slip ≡ a → judge_records slip a names items ≡ (Ok tt) → Verified slip (items_in names items) contents
    go (refused r) q h = never r h
    go (accepted es) q h = sure es q (eqb (length items % 56) 0) h

pub pass-is_verified : PassIsVerified
pass-is_verified slip names items contents b g h = good-is_sure slip names items contents b g ((pass-is-one (judge_call slip names items)).0 h)
