-- Q-11: the children of 3D3D in another order. A swap, and by it any reordering.
use Rattle.std.specs.Prelude.{Err}
use mathlib.Core.Path.{◌≡◌, refl, sym, ap, ◌∙◌, subst}
use Prim.Native.Nat.{ℕ, ◌+◌}
use native.Mathlib.Omega.{arith}
use mathlib.Core.List.{List, [], ◌++◌, map, append_assoc, append-nil}
use lib.ListN.{length, length-append, length-map}
use Rattle.shared_words.specs.declared.Refusal.{Refusal}
use Rattle.studio_rules.specs.Layout.{Run, figure, header, size, bytes, known, ◌then◌}
use Rattle.studio_rules.specs.Rules.{version, Meets}
use Rattle.studio_rules.specs.Walk.{verdict}
use Rattle.shared_words.specs.Conditions.{accepted}
use Rattle.studio_rules.specs.Gives.{Mesh, record_count, headers, owned, skipped, meshes_of, meshes}
use Rattle.studio_rules.specs.Calls.{counts_of, check_call, of_mesh, tables_of, tables_call, name_call, around_of, box_call, parts_call}
use Rattle.shared_words.specs.Effects.{leaving}
use Rattle.studio_rules.proofs.Verdict.{accepted_exactly, verdict-good, length-figure}
use Rattle.claim_swapped.specs.Swapped.{BytesSwapped, Swapped, Reordered, same, swap, mesh_count, exchanged, by_swap, by_swaps, Renumbered, SameFigure, SwapSame, SwapBytes, ReorderedSame}
use Rattle.studio_scene.specs.Scene.{holding, file_of}
use Rattle.studio_scene.specs.Contents.{unplaced, contents}
use Rattle.claim_swapped.specs.Names.{no, letters}
use Rattle.studio_scene.proofs.Then.{records_then, headers_then, owned_then, skipped_then}
use Rattle.studio_rules.proofs.Then.{size_then, bytes_then}
use Rattle.studio_scene.proofs.Around.{obeys-holding, parts_same, version-same}
use Rattle.claim_swapped.proofs.Rules.{obeys_swapped, sum_swapped}
use Rattle.studio_scene.proofs.Contents.{contents_then, contents-holding}
use Rattle.claim_swapped.proofs.Meshes.{asked-same}
use Rattle.claim_swapped.proofs.Names.{name_bytes, names, names_then, names-count, names-holding, letters-of}

-- ---- numbers that add over runs

-- f adds over runs, and over the children of 3D3D
holding-same : (f : Run → ℕ) → ((a t : Run) → f (a then t) ≡ f a + f t) → (c : ℕ) → ((t after : Run) → f (known 0x3D3D [] t after) ≡ c + f t + f after) →
    (before t u after : Run) → f u ≡ f t → f (holding before u after) ≡ f (holding before t after)
holding-same f add c at before t u after e =
    omega (arith, add before (known 0x3D3D [] u after), add before (known 0x3D3D [] t after), at u after, at t after)

module _ (before t u after : Run) (w : Swapped t u) where
  abbrev old : Run
  old = holding before t after

  abbrev new : Run
  new = holding before u after

  scene-size : size u ≡ size t
  scene-size = sum_swapped size size_then t u w

  size_same : size new ≡ size old
  size_same = holding-same size size_then 6 (λ t after. omega arith) before t u after scene-size

  records-same : record_count new ≡ record_count old
  records-same = holding-same record_count records_then 1 (λ t after. omega arith) before t u after (sum_swapped record_count records_then t u w)

  headers-same : headers new ≡ headers old
  headers-same = holding-same headers headers_then 6 (λ t after. omega arith) before t u after (sum_swapped headers headers_then t u w)

  owned-same : owned new ≡ owned old
  owned-same = holding-same owned owned_then 0 (λ t after. omega arith) before t u after (sum_swapped owned owned_then t u w)

  skipped-same : skipped new ≡ skipped old
  skipped-same = holding-same skipped skipped_then 0 (λ t after. omega arith) before t u after (sum_swapped skipped skipped_then t u w)

  counts_same : counts_of new ≡ counts_of old
  counts_same = rw (records-same, headers-same, owned-same, skipped-same)

  length-same : length (bytes (figure new)) ≡ length (bytes (figure old))
  length-same = omega (arith, length-figure new, length-figure old, size_same)

  -- ---- the meshes

  abbrev xs : List Mesh
  xs = contents before ++ contents w.first

  abbrev ys : List Mesh
  ys = contents w.left

  abbrev zs : List Mesh
  zs = contents w.right

  abbrev ws : List Mesh
  ws = contents w.last ++ contents after

  four : (v a b c d : Run) → v ≡ a then b then c then d →
      map unplaced (meshes (holding before v after)) ≡ (contents before ++ contents a) ++ (contents b ++ (contents c ++ (contents d ++ contents after)))
  four v a b c d e =
      contents-holding before v after ∙
      rw (e, contents_then a (b then c then d), contents_then b (c then d), contents_then c d) (simp append_assoc)

  count-first : length xs ≡ mesh_count before + mesh_count w.first
  count-first = omega (arith, length-append (contents before) (contents w.first), length-map (meshes_of 0 0 0 before) unplaced, length-map (meshes_of 0 0 0 w.first) unplaced)

  to_same : (m : ℕ) → exchanged (length xs) (length ys) (length zs) m ≡ by_swap before w m
  to_same m = rw (count-first, length-map (meshes_of 0 0 0 w.left) unplaced, length-map (meshes_of 0 0 0 w.right) unplaced)

  -- what is asked of one mesh, and does not look where its name stands
  asked : {A : Type 0} (refuse : Refusal → A) (f : Mesh → A) → ((m : Mesh) → f m ≡ f (unplaced m)) →
      (m : ℕ) → of_mesh refuse f (by_swap before w m) (accepted new) ≡ of_mesh refuse f m (accepted old)
  asked refuse f blind m =
      rw (← (to_same m))
      (asked-same refuse f unplaced unplaced f f blind blind old new xs ys zs ws (four t w.first w.left w.right w.last w.was) (four u w.first w.right w.left w.last w.is) m)

  -- ---- their names

  abbrev nx : List (List ℕ)
  nx = names [] before ++ names [] w.first

  abbrev ny : List (List ℕ)
  ny = names [] w.left

  abbrev nz : List (List ℕ)
  nz = names [] w.right

  four-names : (s : List ℕ) (v a b c d : Run) → v ≡ a then b then c then d → bytes (figure (holding before v after)) ≡ s →
      map (name_bytes s) (meshes (holding before v after)) ≡ (names [] before ++ names [] a) ++ (names [] b ++ (names [] c ++ (names [] d ++ names [] after)))
  four-names s v a b c d e i =
      names-holding s before v after i ∙
      rw (e, names_then [] a (b then c then d), names_then [] b (c then d), names_then [] c d) (simp append_assoc)

  names_to : (m : ℕ) → exchanged (length nx) (length ny) (length nz) m ≡ by_swap before w m
  names_to m =
      let a : length nx ≡ mesh_count before + mesh_count w.first =
      omega (arith, length-append (names [] before) (names [] w.first), names-count [] 0 0 0 before, names-count [] 0 0 0 w.first) in
      rw (a, names-count [] 0 0 0 w.left, names-count [] 0 0 0 w.right)

  asked-name : (s s' : List ℕ) → bytes (figure old) ≡ s → bytes (figure new) ≡ s' →
      (m : ℕ) → of_mesh no (λ x. letters (name_bytes s' x)) (by_swap before w m) (accepted new) ≡ of_mesh no (λ x. letters (name_bytes s x)) m (accepted old)
  asked-name s s' i i' m =
      rw (← (names_to m))
      (asked-same no letters (name_bytes s) (name_bytes s') (λ x. letters (name_bytes s x)) (λ x. letters (name_bytes s' x)) (λ x. refl) (λ x. refl) old new nx ny nz (names [] w.last ++ names [] after)
      (four-names s t w.first w.left w.right w.last w.was i) (four-names s' u w.first w.right w.left w.last w.is i') m)

  -- ---- the file

  pub meets-new : (s : List ℕ) → Meets s old → Meets (file_of before u after) new
  meets-new s h =
      let l = h.within-limit in
      record {
        is = refl;
        within-limit = omega (arith, length-same, ap length h.is);
        chunks = rw (version-same before t u after) (obeys-holding (version old) before t u after (obeys_swapped (version old) t u w) h.chunks);
      }

  pub renumbered : (s s' : List ℕ) → bytes (figure old) ≡ s → bytes (figure new) ≡ s' → verdict s ≡ accepted old → verdict s' ≡ accepted new → Renumbered (by_swap before w) s s'
  unfolding tables_call name_call box_call
  renumbered s s' i i' e e' = record {
    tables-same = λ t m rows. rw (e, e') (asked (λ r. leaving (Err r) rows) (tables_of t rows) (λ m. refl) m);
    name-same = λ m. rw (e, e') (letters-of s' (by_swap before w m) (accepted new) ∙ asked-name s s' i i' m ∙ sym (letters-of s m (accepted old)));
    box-same = λ m. rw (e, e') (asked Err around_of (λ m. refl) m);
  }

  pub swap_meets : (s : List ℕ) → Meets s old → SameFigure (by_swap before w) s (file_of before u after) new
  unfolding check_call parts_call
  swap_meets s h =
      let e = verdict-good s old h in
      let e' = verdict-good (file_of before u after) new (meets-new s h) in
      record {
        accepted_too = e';
        length-same = length-same ∙ ap length h.is;
        counts_same = rw (e, e', counts_same);
        meshes-same = renumbered s (file_of before u after) h.is refl e e';
        parts_same = λ x row. rw (e, e', parts_same before t u after);
      }

-- A SWAP
pub swap-same : SwapSame
swap-same s before t u after w b e = swap_meets before t u after w s ((accepted_exactly s b (holding before t after)).0 e)

-- ANY REORDERING
module _ (before after : Run) where
  meets_reordered : (s : List ℕ) (t u : Run) → Reordered t u → Meets s (holding before t after) → Meets (file_of before u after) (holding before u after)
  meets_reordered s t u (same t') h = rw h.is h
  meets_reordered s t v (swap {u = u} r w) h = meets-new before u v after w (file_of before u after) (meets_reordered s t u r h)

  reordered_meets : (s : List ℕ) (t u : Run) (r : Reordered t u) → Meets s (holding before t after) → SameFigure (by_swaps before r) s (file_of before u after) (holding before u after)
  reordered_meets s t u (same t') h =
      rw h.is record {
        accepted_too = verdict-good s (holding before t' after) h;
        length-same = refl;
        counts_same = refl;
        meshes-same = record { tables-same = λ t m rows. refl; name-same = λ m. refl; box-same = λ m. refl };
        parts_same = λ x row. refl;
      }
  reordered_meets s t v (swap {u = u} r w) h =
      let i = reordered_meets s t u r h in
      let j = swap_meets before u v after w (file_of before u after) (meets_reordered s t u r h) in
      record {
        accepted_too = j.accepted_too;
        length-same = j.length-same ∙ i.length-same;
        counts_same = j.counts_same ∙ i.counts_same;
        meshes-same = record {
          tables-same = λ t m rows. j.meshes-same.tables-same t (by_swaps before r m) rows ∙ i.meshes-same.tables-same t m rows;
          name-same = λ m. j.meshes-same.name-same (by_swaps before r m) ∙ i.meshes-same.name-same m;
          box-same = λ m. j.meshes-same.box-same (by_swaps before r m) ∙ i.meshes-same.box-same m;
        };
        parts_same = λ x row. j.parts_same x row ∙ i.parts_same x row;
      }

pub reordered_same : ReorderedSame
reordered_same s before t u after r b e = reordered_meets before after s t u r ((accepted_exactly s b (holding before t after)).0 e)

-- ---- the bytes

file-bytes : (before v after a b c d : Run) (n k : ℕ) → v ≡ a then b then c then d → size v ≡ n → size (holding before v after) ≡ k →
    file_of before v after ≡ (header 0x4D4D (6 + 0 + k) ++ (bytes before ++ (header 0x3D3D (6 + 0 + n) ++ bytes a))) ++ (bytes b ++ (bytes c ++ (bytes d ++ bytes after)))
file-bytes before v after a b c d n k e i j =
    let g : bytes v ≡ bytes a ++ (bytes b ++ (bytes c ++ bytes d)) = ap bytes e ∙ rw (bytes_then a (b then c then d), bytes_then b (c then d), bytes_then c d) in
    rw (append-nil (bytes (holding before v after)), j, bytes_then before (known 0x3D3D [] v after), i, g) (simp append_assoc)

-- IN THE FILE nothing else changes places
pub swap_bytes : SwapBytes
swap_bytes s before t u after w b v =
    let n = scene-size before t u after w in
    let k = size_same before t u after w in
    subst (λ (x : List ℕ). BytesSwapped (bytes w.left) (bytes w.right) x (file_of before u after)) ((accepted_exactly s b (holding before t after)).0 v).is
    record {
      front = header 0x4D4D (6 + 0 + size (holding before t after)) ++ (bytes before ++ (header 0x3D3D (6 + 0 + size t) ++ bytes w.first));
      back = bytes w.last ++ bytes after;
      was = file-bytes before t after w.first w.left w.right w.last (size t) (size (holding before t after)) w.was refl refl;
      is = file-bytes before u after w.first w.right w.left w.last (size t) (size (holding before t after)) w.is n k;
    }
