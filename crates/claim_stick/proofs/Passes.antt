-- A pass, of the three calls.
use mathlib.Core.Path.{◌≡◌, sym, ap, ◌∙◌, subst}
use mathlib.Core.List.{List, [], ◌∷◌}
use mathlib.Core.Option.{some}
use Prim.Native.Nat.{ℕ, zero, suc, ◌+◌, ◌<◌}
use native.Mathlib.Omega.{arith}
use lib.ListN.{length, get_or}
use Rattle.shared_words.specs.Bytes.{Bytes}
use Rattle.shared_words.specs.Lists.{Pairwise}
use Rattle.shared_words.specs.Conditions.{accepted}
use Rattle.slip_sums.specs.Fletcher.{sum_of}
use Rattle.slip_rules.specs.Slip.{Entry}
use Rattle.slip_rules.specs.Rules.{Meets}
use Rattle.slip_rules.specs.Walk.{verdict}
use Rattle.slip_rules.proofs.Verdict.{accepted_exactly}
use Rattle.stick_rules.specs.Items.{Item}
use Rattle.stick_rules.specs.Judge.{manifest, entry_of}
use Rattle.stick_rules.specs.Records.{item_no, items_from, item_count}
use Rattle.claim_sums.proofs.Turned.{one_bit}
use Rattle.claim_stick.specs.Evidence.{EvidenceOf, OfFile}
use Rattle.claim_stick.specs.Verified.{entry_sum, VerifiedFile}
use Rattle.claim_stick.specs.Calls.{GatheredOf, PassOfCalls, TurnedBitNeverPasses}
use Rattle.claim_stick.proofs.Verified.{pass-is_verified}
use Rattle.claim_stick.proofs.Calls.{calls_gather}

-- ---- items by their numbers

module _ (R : List ℕ → Item → Type 0) (names s : List ℕ) where
  by_number : (k i : ℕ) (contents : List (List ℕ)) → length contents ≡ k → ((j : ℕ) → j < k → R (get_or contents j []) (item_no names s (i + j))) →
      Pairwise R contents (items_from k names s i)
  unfolding items_from
  by_number zero i [] l h = tt
  by_number zero i (c ∷ contents) l h = absurd (omega arith)
  by_number (suc k) i [] l h = absurd (omega arith)
  by_number (suc k) i (c ∷ contents) l h =
      let z : i + 0 ≡ i = omega arith in (
        subst (λ (n : ℕ). R c (item_no names s n)) z (h 0 (omega arith)),
        by_number k (suc i) contents (omega arith) (λ j m. let y : i + suc j ≡ suc i + j = omega arith in
            subst (λ (n : ℕ). R (get_or contents j []) (item_no names s n)) y (h (suc j) (omega arith))),
      )

  at_number : (k i : ℕ) (contents : List (List ℕ)) → Pairwise R contents (items_from k names s i) → (j : ℕ) → j < k →
      R (get_or contents j []) (item_no names s (i + j))
  unfolding items_from
  at_number zero i contents p j l = absurd (omega arith)
  at_number (suc k) i [] p j l = absurd p
  at_number (suc k) i (c ∷ contents) p zero l = let z : i ≡ i + 0 = omega arith in subst (λ (n : ℕ). R c (item_no names s n)) z p.0
  at_number (suc k) i (c ∷ contents) p (suc j) l =
      let y : suc i + j ≡ i + suc j = omega arith in
      subst (λ (n : ℕ). R (get_or contents j []) (item_no names s n)) y (at_number k (suc i) contents p.1 j (omega arith))

-- ---- evidence that the calls made

made : (names items : List ℕ) (i : ℕ) (s : List ℕ) → GatheredOf items i s → EvidenceOf s (item_no names items i)
made names items i s g =
    subst (λ (x : List ℕ). EvidenceOf x (item_no names items i)) g.all-parts
    (calls_gather names items g.path g.size g.first g.parts g.lent i g.room g.left (subst Bytes (sym g.all-parts) g.are_bytes))

pub pass-of_calls : PassOfCalls
pass-of_calls slip names items contents b c h =
    pass-is_verified slip names items contents b
    (by_number (OfFile EvidenceOf) names items (item_count items) 0 contents c.one_each
    (λ j l. let z : 0 + j ≡ j = omega arith in
    subst (λ (n : ℕ). OfFile EvidenceOf (get_or contents j []) (item_no names items n)) (sym z) (λ f. made names items j (get_or contents j []) (c.every-file j l f))))
    h

-- ---- one turned bit

one-reading : (slip : List ℕ) → Bytes slip → (es fs : List Entry) → Meets slip es → Meets slip fs → es ≡ fs
one-reading slip b es fs m n =
    let p : verdict slip ≡ accepted es = (accepted_exactly slip b es).1 m in
    let q : verdict slip ≡ accepted fs = (accepted_exactly slip b fs).1 n in
    cc

pub turned-bit-never-passes : TurnedBitNeverPasses
turned-bit-never-passes slip names items contents b c es m i l f e q s made_of at k a u t h =
    let v = pass-of_calls slip names items contents b c h in
    let z : 0 + i ≡ i = omega arith in
    let w : VerifiedFile (manifest slip v.entries) (get_or contents i []) (item_no names items i) =
    subst (λ (n : ℕ). OfFile (VerifiedFile (manifest slip v.entries)) (get_or contents i []) (item_no names items n)) z
    (at_number (OfFile (VerifiedFile (manifest slip v.entries))) names items (item_count items) 0 contents v.every-file i l) f in
    let r : es ≡ v.entries = one-reading slip b es v.entries m v.is-slip in
    let x : entry_of (manifest slip es) (item_no names items i).path ≡ some w.entry = rw r w.its_own in
    let y : e ≡ w.entry = cc in
    one_bit s at k a u (ap sum_of (sym t) ∙ w.same ∙ ap entry_sum (sym y) ∙ sym made_of)
