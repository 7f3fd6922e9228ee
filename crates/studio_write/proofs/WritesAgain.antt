-- Writing again what was read: own data that obeys the rules, with flag words 0, is the own data of the name, floats and
-- corners in it, so that the layout is that of a bare figure.
use Rattle.shared_words.specs.declared.Refusal.{Refusal}
use Rattle.std.specs.Prelude.{Result, Ok, Err}
use mathlib.Core.Path.{◌≡◌, refl, sym, ap, ◌∙◌, subst}
use Prim.Native.Nat.{ℕ, ◌+◌, ◌-◌, ◌*◌, ◌%◌, ◌≤◌, ◌<◌}
use native.Mathlib.Omega.{arith}
use mathlib.Core.Bool.{Bool, true, false, cond}
use mathlib.Core.List.{List, [], ◌∷◌, ◌++◌, map, append_assoc}
use lib.Dec.{eqb, leb}
use lib.Ieee.{Float}
use lib.ListN.{length, take, drop, length-append, length-drop, length-map, take-append-drop}
use lib.Seq.{take_at}
use borrow.Author.Tests.{eq-eqb, le-leb}
use Rattle.shared_words.specs.Refusals.{limit}
use Rattle.shared_words.proofs.Numbers.{length-numbers, front, packed-numbers}
use Rattle.studio_rules.proofs.Corners.{length-corners}
use Rattle.shared_words.specs.declared.Refusal.TheVariants.{NoRoom}
use Rattle.studio_rules.specs.declared.Sizes.{Sizes}
use Rattle.studio_rules.specs.declared.Span.{Span}
use Rattle.shared_words.specs.Bytes.{le, Bytes}
use Rattle.shared_words.specs.Lists.{every}
use Rattle.shared_words.specs.Floats.{finite}
use Rattle.shared_words.specs.Labels.{fits_label}
use Rattle.studio_rules.specs.OwnData.{count, text, vertex_numbers, face_corners}
use Rattle.studio_rules.specs.Layout.{Run, end, known, figure, header, bytes}
use Rattle.shared_words.specs.Conditions.{accepted}
use Rattle.studio_rules.specs.Walk.{verdict}
use Rattle.shared_words.specs.Floats.{float}
use Rattle.studio_rules.specs.Gives.{Mesh}
use Rattle.shared_words.specs.Effects.{Effect, leaving, filled}
use Rattle.studio_rules.specs.Calls.{Rows, in_numbers, sizes_of, rows_with, tables_of, tables_call, name_call}
use Rattle.shared_words.proofs.Bools.{both}
use Rattle.shared_words.proofs.Bytes.{bytes_drop, word_small, bytes-parts}
use Rattle.shared_words.proofs.Conditions.{Met}
use Rattle.studio_rules.proofs.Verdict.{accepted_exactly}
use Rattle.studio_write_judge.specs.Judged.{triples, is_whole_row, figure_size, write_conditions, judged}
use Rattle.studio_write_bytes.specs.Bare.{name_data, vertex_data, face_data, six_chunks, bare}
use Rattle.studio_write.specs.Write.{write_call}
use Rattle.studio_write.specs.WritesAgain.{face_flags, WritesAgain}
use Rattle.studio_write_bytes.proofs.Bare.{leaf-bytes, behind, name-place, length-bare}
use Rattle.studio_write.proofs.Floats.{patterns_finite, patterns_back}
use Rattle.studio_write_judge.proofs.Judged.{sized}
use Rattle.studio_write.proofs.Called.{called}
use Rattle.studio_write.proofs.Repacked.{numbers_small, packed-corners, name-parts}
use Rattle.studio_write.proofs.Unpacked.{name-text}
use Rattle.studio_write.proofs.Six.{Exact, exact, mesh, name-call, tables-call}

-- ---- own data again

abbrev floats : List ℕ → List Float
floats own = map float (vertex_numbers own)

length-floats : (own : List ℕ) → length (floats own) ≡ 3 * count own
length-floats own = length-map (vertex_numbers own) float ∙ length-numbers 4 (3 * count own) (drop 2 own)

floats-count : (own : List ℕ) → triples (floats own) ≡ count own
floats-count own = omega (arith, length-floats own)

corners-count : (own : List ℕ) → triples (face_corners own) ≡ count own
corners-count own = omega (arith, length-corners (count own) (drop 2 own))

module _ (own : List ℕ) (b : Bytes own) where
  -- the count word, and what follows it
  counted : 2 ≤ length own → le 2 (count own) ++ drop 2 own ≡ own
  counted h = ap (λ (l : List ℕ). l ++ drop 2 own) (front 2 own b h) ∙ take-append-drop 2 own

  vertices-again : 2 + 12 * count own ≡ length own → every finite (vertex_numbers own) ≡ true → vertex_data (floats own) ≡ own
  vertices-again e h =
      let d : length (drop 2 own) ≡ 4 * (3 * count own) = omega (arith, length-drop 2 own) in
      let small = numbers_small 4 (3 * count own) (drop 2 own) (bytes_drop 2 own b) d in
      rw (floats-count own, patterns_back (vertex_numbers own) small h, packed-numbers 4 (3 * count own) (drop 2 own) (bytes_drop 2 own b) d) (counted (omega arith))

  faces-again : 2 + 8 * count own ≡ length own → every (λ flag. eqb flag 0) (face_flags own) ≡ true → face_data (face_corners own) ≡ own
  faces-again e z =
      let d : length (drop 2 own) ≡ 8 * count own = omega (arith, length-drop 2 own) in
      rw (corners-count own, packed-corners (count own) (drop 2 own) (bytes_drop 2 own b) d z) (counted (omega arith))

-- ---- the own data of a file of bytes is bytes

leaf_own : (id : ℕ) (own : List ℕ) → Bytes (bytes (known id own end end)) → Bytes own
leaf_own id own b = (bytes-parts (header id (6 + length own)) own (subst Bytes (leaf-bytes id own (6 + length own) refl) b)).1

own_bytes : (name vertices faces : List ℕ) → Bytes (bytes (figure (six_chunks name vertices faces))) → Bytes vertices × Bytes faces
own_bytes name vertices faces b =
    let v : List ℕ = bytes (known 0x4110 vertices end end) in
    let f : List ℕ = bytes (known 0x4120 faces end end) in
    let here = subst Bytes (name-place name vertices faces) (bytes_drop 18 (bytes (figure (six_chunks name vertices faces))) b) in
    let lists = (bytes-parts (header 0x4100 (18 + length vertices + length faces)) (v ++ f) (bytes-parts name (behind name vertices faces) here).1).1 in
    let p = bytes-parts v f lists in
    (leaf_own 0x4110 vertices p.0, leaf_own 0x4120 faces p.1)

-- ---- what the reader's calls fill

module _ (rows : Rows Float ℕ Float) (m : Mesh) where
  abbrev done : Effect (Result Sizes Refusal) (Rows Float ℕ Float)
  done = leaving (Ok (sizes_of m)) (rows_with in_numbers rows m)

  abbrev no_room : ℕ → Effect (Result Sizes Refusal) (Rows Float ℕ Float)
  no_room n = leaving (Err (NoRoom n)) rows

  filled-rows : (sizes : Sizes) → (tables_of in_numbers rows m).answer ≡ Ok sizes → tables_of in_numbers rows m ≡ done
  filled-rows sizes e = go (leb (length m.vertices) (length rows.vertices)) (leb (length m.corners) (length rows.corners)) (leb (length m.mapping) (length rows.mapping)) e
    where
      go : (v c p : Bool) → (cond v (cond c (cond p done (no_room (length m.mapping))) (no_room (length m.corners))) (no_room (length m.vertices))).answer ≡ Ok sizes →
          cond v (cond c (cond p done (no_room (length m.mapping))) (no_room (length m.corners))) (no_room (length m.vertices)) ≡ done
      go true true true e = refl
      go true true false e = let z : ◌≡◌ {A = ℕ} 0 1 = cc in absurd (omega arith)
      go true false p e = let z : ◌≡◌ {A = ℕ} 0 1 = cc in absurd (omega arith)
      go false c p e = let z : ◌≡◌ {A = ℕ} 0 1 = cc in absurd (omega arith)

same-sizes : {x y : Sizes} → ◌≡◌ {A = Result Sizes Refusal} (Ok x) (Ok y) → y ≡ x
same-sizes e = cc

front-name : (own name rest : List ℕ) → own ≡ name_data name → take (length own - 1) (own ++ rest) ≡ name
front-name own name rest e =
    let k : length own - 1 ≡ length name = omega (arith, ap length e, length-append name (0 ∷ [])) in
    rw (k, e, append_assoc name (0 ∷ []) rest) (take_at name (0 ∷ rest) (length name) refl)

module _ (s name vertices faces : List ℕ) (e : verdict s ≡ accepted (six_chunks name vertices faces)) where
  read_name : bytes (figure (six_chunks name vertices faces)) ≡ s → (short : List ℕ) → name ≡ name_data short →
      (span : Span) → name_call s 0 ≡ Ok span → take span.size (drop span.offset s) ≡ short
  read_name is short n span at =
      let q : span ≡ record { offset = 18; size = length name - 1 } = cc (name-call s name vertices faces e) in
      rw q (ap (λ (l : List ℕ). take (length name - 1) (drop 18 l)) (sym is) ∙ ap (take (length name - 1)) (name-place name vertices faces) ∙ front-name name short (behind name vertices faces) n)

  read-tables : (rows : Rows Float ℕ Float) (sizes : Sizes) → (tables_call in_numbers s 0 rows).answer ≡ Ok sizes →
      (take (3 * sizes.vertices) (tables_call in_numbers s 0 rows).rows.vertices ≡ floats vertices) × (take (3 * sizes.faces) (tables_call in_numbers s 0 rows).rows.corners ≡ face_corners faces)
  read-tables rows sizes f =
      let m = mesh name vertices faces in
      let t = tables-call s name vertices faces e rows in
      let d : tables_call in_numbers s 0 rows ≡ done rows m = t ∙ filled-rows rows m sizes (ap (λ (w : Effect (Result Sizes Refusal) (Rows Float ℕ Float)). w.answer) (sym t) ∙ f) in
      let q : sizes ≡ sizes_of m = same-sizes (ap (λ (w : Effect (Result Sizes Refusal) (Rows Float ℕ Float)). w.answer) (sym d) ∙ f) in (
        rw (d, q) (take_at (floats vertices) _ (3 * count vertices) (length-floats vertices)),
        rw (d, q) (take_at (face_corners faces) _ (3 * count faces) (length-corners (count faces) (drop 2 faces))),
      )

-- ---- the file again

whole : (n c : ℕ) → n ≡ 3 * c → c < 0x1_0000 → is_whole_row n ≡ true
whole n c e l = both (eqb (n % 3) 0) (leb n 196_605) (eq-eqb (n % 3) 0 (omega arith)) (le-leb n 196_605 (omega arith))

module _ (name vertices faces : List ℕ) (x : Exact name vertices faces) (bv : Bytes vertices) (bf : Bytes faces)
    (z : every (λ flag. eqb flag 0) (face_flags faces) ≡ true) where
  abbrev short : List ℕ
  short = (name-parts name x.name-ends).0

  same_layout : bare short (floats vertices) (face_corners faces) ≡ six_chunks name vertices faces
  same_layout =
      let a = (name-parts name x.name-ends).1 in
      let v = vertices-again vertices bv x.vertices-exact x.numbers-finite in
      let f = faces-again faces bf x.faces-exact z in
      cc

  fits-again : fits_label short ≡ true
  fits-again =
      let n = name-parts name x.name-ends in
      subst (λ (t : List ℕ). fits_label t ≡ true) (ap text n.1 ∙ name-text short [] n.2) x.name-fits

  met-again : (room : ℕ) → figure_size short (floats vertices) (face_corners faces) ≤ limit → figure_size short (floats vertices) (face_corners faces) ≤ room →
      Met (write_conditions short (floats vertices) (face_corners faces) room)
  met-again room l h = (
    (name-parts name x.name-ends).2,
    (
      fits-again,
      (
        whole (length (floats vertices)) (count vertices) (length-floats vertices) (word_small vertices bv),
        (
          whole (length (face_corners faces)) (count faces) (length-corners (count faces) (drop 2 faces)) (word_small faces bf),
          (patterns_finite (vertex_numbers vertices) x.numbers-finite, (rw (floats-count vertices) x.corners-below, (le-leb _ _ l, (le-leb _ _ h, tt)))),
        ),
      ),
    ),
  )

  file-again : (s out : List ℕ) → bytes (figure (six_chunks name vertices faces)) ≡ s → length s ≤ limit → length s ≤ length out →
      write_call short (floats vertices) (face_corners faces) out ≡ leaving (Ok (length s)) (filled s out)
  file-again s out e l h =
      let same : bytes (figure (bare short (floats vertices) (face_corners faces))) ≡ s = ap (λ (t : Run). bytes (figure t)) same_layout ∙ e in
      let size : figure_size short (floats vertices) (face_corners faces) ≡ length s =
      sym (length-bare short (floats vertices) (face_corners faces) (omega (arith, length-floats vertices))) ∙ ap length same in
      let j : Ok (length s) ≡ judged short (floats vertices) (face_corners faces) (length out) =
      ap Ok (sym size) ∙ sized short (floats vertices) (face_corners faces) (length out) (met-again (length out) (omega arith) (omega arith)) in
      called short (floats vertices) (face_corners faces) out (Ok (length s)) (sym j) ∙ ap (λ (t : List ℕ). leaving (Ok (length s)) (filled t out)) same

pub writes_again : WritesAgain
writes_again s b name vertices faces e z name' vertices' corners' r out h =
    let m = (accepted_exactly s b (six_chunks name vertices faces)).0 e in
    let x = exact name vertices faces m.chunks in
    let own = own_bytes name vertices faces (subst Bytes (sym m.is) b) in
    let n = name-parts name x.name-ends in
    let t = read-tables s name vertices faces e r.rows r.sizes r.rows-filled in
    rw (r.name-is ∙ read_name s name vertices faces e m.is n.0 n.1 r.span r.name-at, r.vertices_are ∙ t.0, r.corners_are ∙ t.1)
    (file-again name vertices faces x own.0 own.1 z s out m.is m.within-limit h)
