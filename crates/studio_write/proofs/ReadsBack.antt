-- What is written reads back: the own data of a bare figure is what the rules ask, and holds the numbers given.
use Rattle.shared_words.specs.declared.Refusal.{Refusal}
use Rattle.std.specs.Prelude.{Result, Ok}
use mathlib.Core.Path.{◌≡◌, refl, sym, ap, ◌∙◌, subst}
use Prim.Native.Nat.{ℕ, ◌+◌, ◌-◌, ◌*◌, ◌≤◌}
use native.Mathlib.Omega.{arith}
use mathlib.Core.Bool.{true}
use mathlib.Core.List.{List, [], ◌∷◌, map, append_assoc}
use lib.Dec.{ltb}
use lib.Ieee.{Float, binary32, to_bits}
use lib.ListN.{length, take, drop, length-append, length-map}
use lib.Seq.{take_at}
use borrow.Author.Tests.{ltb-true, lt-ltb, le-leb}
use Rattle.studio_rules.specs.OwnData.{count, vertex_numbers, face_corners}
use Rattle.studio_rules.specs.Rules.{all_below, Meets}
use Rattle.shared_words.specs.Effects.{Effect, leaving, filled}
use Rattle.studio_rules.specs.Calls.{Rows, in_numbers, tables_of}
use Rattle.shared_words.proofs.Bools.{every_weaker}
use Rattle.shared_words.proofs.Bytes.{value-le}
use Rattle.studio_rules.proofs.Verdict.{verdict-good}
use Rattle.studio_write_judge.specs.Judged.{triples, judged}
use Rattle.studio_write_bytes.specs.Bare.{name_data, vertex_data, face_data, bare, bare_bytes}
use Rattle.studio_write.specs.Write.{write_call}
use Rattle.studio_write.specs.ReadsBack.{Floats32, ReadsBack, WrittenReadsBack}
use Rattle.studio_write_bytes.proofs.Bare.{behind, name-place, length-vertex_data, length-face_data, length-bare}
use Rattle.studio_write.proofs.Floats.{floats_small, floats-finite, floats-back}
use Rattle.studio_write_judge.proofs.Judged.{Ready, ready}
use Rattle.studio_write.proofs.Called.{called, answered}
use Rattle.studio_write.proofs.Six.{Exact, obeys, mesh, name-call, no_other, tables-call, list-call}
use Rattle.studio_write.proofs.Unpacked.{numbers-packed, corners-packed, name-size, name-text}

module _ (name : List ℕ) (vertices : List Float) (corners : List ℕ) (room size : ℕ) (r : Ready name vertices corners room size) where
  vertex-count : count (vertex_data vertices) ≡ triples vertices
  vertex-count = value-le 2 (triples vertices) (omega arith)

  face-count : count (face_data corners) ≡ triples corners
  face-count = value-le 2 (triples corners) (omega arith)

  face-corners : face_corners (face_data corners) ≡ corners
  face-corners =
      let small : all_below 0x1_0000 corners ≡ true =
      every_weaker (λ c. ltb c (triples vertices)) (λ c. ltb c 0x1_0000) corners (λ c h. let l = ltb-true c (triples vertices) h in lt-ltb c 0x1_0000 (omega arith)) r.below in
      rw face-count (corners-packed (triples corners) corners (omega arith) small)

  module _ (f : Floats32 vertices) where
    vertex-numbers : vertex_numbers (vertex_data vertices) ≡ map (to_bits binary32) vertices
    vertex-numbers =
        let n : 3 * triples vertices ≡ length (map (to_bits binary32) vertices) = omega (arith, length-map vertices (to_bits binary32)) in
        rw (vertex-count, n) (numbers-packed 4 (map (to_bits binary32) vertices) (floats_small vertices f))

    exact_data : Exact (name_data name) (vertex_data vertices) (face_data corners)
    exact_data = record {
      name-ends = name-size name r.no_zero;
      name-fits = rw (name-text name [] r.no_zero) r.fits_label_lem;
      vertices-exact = omega (arith, vertex-count, length-vertex_data vertices r.whole-vertices);
      faces-exact = omega (arith, face-count, length-face_data corners);
      numbers-finite = rw vertex-numbers (floats-finite vertices f r.finite);
      corners-below = rw (vertex-count, face-corners) r.below;
    }

    tables_are : (rows : Rows Float ℕ Float) → length vertices ≤ length rows.vertices → length corners ≤ length rows.corners →
        tables_of in_numbers rows (mesh (name_data name) (vertex_data vertices) (face_data corners)) ≡
        leaving (Ok record { vertices = triples vertices; faces = triples corners; pairs = 0 })
        record { vertices = filled vertices rows.vertices; corners = filled corners rows.corners; mapping = rows.mapping }
    tables_are rows v c =
        let fits : length (map (to_bits binary32) vertices) ≤ length rows.vertices = omega (arith, length-map vertices (to_bits binary32)) in
        rw (vertex-numbers, face-corners, vertex-count, face-count, le-leb _ _ fits, le-leb (length corners) (length rows.corners) c, le-leb 0 (length rows.mapping) (omega arith), floats-back vertices f)

    meets : Meets (bare_bytes name vertices corners) (bare name vertices corners)
    meets = record {
      is = refl;
      within-limit = omega (arith, length-bare name vertices corners r.whole-vertices);
      chunks = obeys (name_data name) (vertex_data vertices) (face_data corners) exact_data;
    }

    reads-back : ReadsBack name vertices corners (bare_bytes name vertices corners)
    reads-back =
        let e = verdict-good (bare_bytes name vertices corners) (bare name vertices corners) meets in
        let named : length (name_data name) ≡ 1 + length name = length-append name (0 ∷ []) ∙ omega arith in
        let unzeroed : length (name_data name) - 1 ≡ length name = omega arith in
        let more = behind (name_data name) (vertex_data vertices) (face_data corners) in
        let place = name-place (name_data name) (vertex_data vertices) (face_data corners) ∙ append_assoc name (0 ∷ []) more in
        record {
          is = refl;
          size = length-bare name vertices corners r.whole-vertices;
          meets-rules = meets;
          is-accepted = e;
          list = list-call _ _ _ _ e (length name) (triples vertices) (triples corners) named (length-vertex_data vertices r.whole-vertices) (length-face_data corners);
          one-mesh = no_other _ _ _ _ e;
          name-at = name-call _ _ _ _ e ∙ rw unzeroed;
          name-is = ap (take (length name)) place ∙ take_at name (0 ∷ more) (length name) refl;
          tables = λ rows v c. tables-call _ _ _ _ e rows ∙ tables_are rows v c;
        }

pub written-reads-back : WrittenReadsBack
written-reads-back name vertices corners out size f e =
    let file : List ℕ = bare_bytes name vertices corners in
    let j : judged name vertices corners (length out) ≡ Ok size = sym (answered name vertices corners out) ∙ e in
    let r = ready name vertices corners (length out) size j in
    let long : length file ≡ size = length-bare name vertices corners r.whole-vertices ∙ sym r.size_is in
    let first : take size (write_call name vertices corners out).rows ≡ file =
    ap (λ (w : Effect (Result ℕ Refusal) (List ℕ)). take size w.rows) (called name vertices corners out (Ok size) j) ∙ take_at file (drop (length file) out) size long in
    subst (ReadsBack name vertices corners) (sym first) (reads-back name vertices corners (length out) size r f)
