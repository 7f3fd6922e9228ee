-- Writing again what was read: the list tells that the layout is that of the six chunks, and where the faces stand.
use mathlib.Core.Path.{◌≡◌, sym, ap, subst, ◌∙◌}
use mathlib.Core.Bool.{true}
use mathlib.Core.List.{List, [], ◌∷◌, map}
use mathlib.Core.Option.{some}
use Prim.Native.Nat.{ℕ, zero, suc}
use native.Mathlib.Omega.{arith}
use lib.Dec.{eqb}
use lib.ListN.{get_elem?}
use Rattle.shared_words.specs.Conditions.{accepted}
use Rattle.shared_words.specs.Lists.{every}
use Rattle.studio_rules.specs.declared.Record.{Record}
use Rattle.studio_rules.specs.declared.Counts.{Counts}
use Rattle.studio_rules.specs.Layout.{Run, figure, bytes}
use Rattle.studio_rules.specs.Gives.{list, skipped}
use Rattle.studio_rules.proofs.Verdict.{verdict-good}
use Rattle.studio_write_bytes.specs.Bare.{six_chunks}
use Rattle.studio_write.specs.WritesAgain.{face_flags}
use Rattle.studio_write.proofs.JustSix.{just_six}
use Rattle.studio_write.proofs.WritesAgain.{writes_again}
use Rattle.studio_figure_rules.specs.ReadsBack.{Chunk, chunk, chunk_in}
use Rattle.studio_figure_rules.proofs.Chunks.{chunks, list-chunks}
use Rattle.claim_places.proofs.Records.{listed-is}
use Rattle.claim_written.specs.Again.{SameFileAgain}

map_at : {A B : Type 0} (f : A → B) (xs : List A) (k : ℕ) (x : A) → get_elem? xs k ≡ some x → get_elem? (map f xs) k ≡ some (f x)
map_at f [] k x h = let z : ◌≡◌ {A = ℕ} 0 1 = cc in absurd (omega arith)
map_at f (y ∷ xs) zero x h = let e : y ≡ x = cc in ap (λ z. some (f z)) e
map_at f (y ∷ xs) (suc k) x h = map_at f xs k x h

-- the sixth record is that of the faces
faces_are : (s name vertices faces : List ℕ) (kids : Run) → bytes (figure kids) ≡ s → kids ≡ six_chunks name vertices faces → (r : Record) → get_elem? (list kids) 5 ≡ some r →
    (chunk_in s r).own ≡ faces
faces_are s name vertices faces kids is six r h =
    let a : get_elem? (map (chunk_in s) (list kids)) 5 ≡ some (chunk_in s r) = map_at (chunk_in s) (list kids) 5 r h in
    let b : map (chunk_in s) (list kids) ≡ chunks (figure kids) = subst (λ (x : List ℕ). map (chunk_in x) (list kids) ≡ chunks (figure kids)) is (list-chunks kids) in
    let c : get_elem? (chunks (figure kids)) 5 ≡ some (chunk 0x4120 faces) = ap (λ (k : Run). get_elem? (chunks (figure k)) 5) six in
    let e : some (chunk_in s r) ≡ some (chunk 0x4120 faces) = sym a ∙ ap (λ (l : List Chunk). get_elem? l 5) b ∙ c in
    let f : chunk_in s r ≡ chunk 0x4120 faces = cc in
    ap (λ (x : Chunk). x.own) f

pub same-file-again : SameFileAgain
same-file-again s b x name vertices corners read out l =
    let d = listed-is s b x.table x.counts x.listed in
    let kids : Run = d.0 in
    let m = d.1 in
    let v = verdict-good s kids m in
    let there = d.3 in
    let ordered = ap (map (λ (r : Record). r.identifier)) (sym there) ∙ x.in_order in
    let unskipped : skipped (figure kids) ≡ 0 = ap (λ (c : Counts). c.skipped) (sym d.2) ∙ x.none-skipped in
    let six = just_six s b kids v ordered unskipped in
    let sixth : get_elem? (list kids) 5 ≡ some x.faces = ap (λ (rs : List Record). get_elem? rs 5) (sym there) ∙ x.faces_sixth in
    let own = faces_are s six.0 six.1 six.2 kids m.is six.3 x.faces sixth in
    let flags = subst (λ (f : List ℕ). every (λ flag. eqb flag 0) (face_flags f) ≡ true) own x.flags-zero in
    writes_again s b six.0 six.1 six.2 (v ∙ ap accepted six.3) flags name vertices corners read out l
