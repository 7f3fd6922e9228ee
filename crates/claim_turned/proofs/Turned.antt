-- Another value in one length field: the result is refused, or a reader gets the same but for that length; and where
-- nothing is skipped it is refused.
use mathlib.Core.Path.{◌≡◌, refl, sym, ap, ◌∙◌}
use Prim.Native.Nat.{ℕ, zero, suc, ◌+◌, ◌^◌, ◌<◌}
use native.Mathlib.Omega.{arith}
use mathlib.Core.List.{List, [], ◌∷◌, ◌++◌}
use mathlib.Core.Option.{some, some-ne-none}
use lib.ListN.{length, take, drop, get_elem?, set}
use Rattle.studio_rules.specs.declared.Record.{Record}
use Rattle.shared_words.specs.declared.Refusal.{Refusal}
use Rattle.studio_rules.specs.declared.Counts.{Counts}
use Rattle.shared_words.specs.Bytes.{le, Bytes}
use Rattle.studio_rules.specs.Layout.{Run, figure, size, with_length}
use Rattle.studio_rules.specs.Rules.{file, version, Meets}
use Rattle.shared_words.specs.Conditions.{Answer, accepted, refused}
use Rattle.studio_rules.specs.Walk.{verdict}
use Rattle.studio_rules.specs.Gives.{records_of, list, skipped}
use Rattle.studio_rules.specs.Parses.{in_file}
use Rattle.studio_rules.proofs.Parses.{parses}
use Rattle.shared_words.proofs.Bytes.{bytes_take, bytes_drop, bytes_append, bytes_le}
use Rattle.studio_rules.proofs.Verdict.{accepted_exactly, length-figure}
use Rattle.claim_turned.specs.Turned.{OtherLength, resized, SameOrRefused, RefusedWithoutUnlisted}
use Rattle.claim_turned.proofs.Bare.{bare-whole}
use Rattle.claim_turned.proofs.Number.{Found}
use Rattle.claim_turned.proofs.Chunk.{meets, found, with-length}
use Rattle.claim_turned.proofs.Reread.{Reread, reread}
use Rattle.claim_turned.proofs.Gets.{bare-same, gets_same}

bytes-field : (o n : ℕ) (s : List ℕ) → Bytes s → Bytes (with_length o n s)
bytes-field o n s h = bytes_append (take (o + 2) s) (le 4 n ++ drop (o + 6) s) (bytes_take (o + 2) s h) (bytes_append (le 4 n) (drop (o + 6) s) (bytes_le 4 n) (bytes_drop (o + 6) s h))

module _ (s : List ℕ) (kids : Run) (i : ℕ) (r : Record) (n : ℕ) (h : OtherLength s kids i r n) where
  -- the chunk
  abbrev pub at : Found i (figure kids)
  at = found s kids i r h.are_bytes h.reads h.in_list

  -- an accepted result is another reading
  pub read_again : (kids' : Run) → verdict (with_length r.offset n s) ≡ accepted kids' → Reread in_file at.context at.id at.own at.kids at.rest n (figure kids')
  read_again kids' e =
      let m : Meets s kids = meets s kids i r h.are_bytes h.reads h.in_list in
      let m' = (accepted_exactly (with_length r.offset n s) (bytes-field r.offset n s h.are_bytes) kids').0 e in
      let z : size (figure kids') < 2 ^ 32 = omega (arith, m'.within-limit, ap length m'.is, length-figure kids') in
      reread in_file at.context at.id at.own at.kids at.rest n (figure kids') h.in_field z
      (rw at.is (parses (file (version kids)) [] (figure kids) m.chunks)) (parses (file (version kids')) [] (figure kids') m'.chunks) (m'.is ∙ with-length s kids i r h.are_bytes h.reads h.in_list n)

-- ANY OTHER VALUE
pub same_or_refused : SameOrRefused
same_or_refused s kids i r n h kids' e = gets_same kids kids' i n (at s kids i r n h) (read_again s kids i r n h kids' e) r h.in_list

-- ---- nothing skipped

-- what is set to what it was is the same
set_back : (xs : List Record) (i : ℕ) (q r : Record) → get_elem? xs i ≡ some r → set xs i q ≡ xs → q ≡ r
set_back [] i q r h e = absurd (some-ne-none r (sym h))
set_back (x ∷ xs) zero q r h e = cc
set_back (x ∷ xs) (suc i) q r h e = set_back xs i q r h (cc)

not-accepted : (a : Answer Run) → ((kids : Run) → a ≡ accepted kids → ⊥) → (why : Refusal) × (a ≡ refused why)
not-accepted (refused why) h = (why, refl)
not-accepted (accepted kids) h = absurd (h kids refl)

-- NO UNLISTED CHUNK: an accepted result would have the same layout, and so the same length
pub refused-without-unlisted : RefusedWithoutUnlisted
refused-without-unlisted s kids i r n h none = not-accepted (verdict (with_length r.offset n s)) λ kids' e.
    let g = same_or_refused s kids i r n h kids' e in
    let none' : skipped (figure kids') ≡ 0 = ap (λ (c : Counts). c.skipped) g.counts_same ∙ none in
    let b = bare-same kids kids' i n (at s kids i r n h) (read_again s kids i r n h kids' e) in
    let t : figure kids' ≡ figure kids = sym (bare-whole (figure kids') none') ∙ b ∙ bare-whole (figure kids) none in
    let q : resized n r ≡ r = set_back (list kids) i (resized n r) r h.in_list (sym g.one-length ∙ ap (records_of 0 0 0 0) t) in
    h.another (ap (λ (x : Record). x.len) q)
