-- Chunks as bytes, piece by piece in the order in which they are put, and how long they are.
use mathlib.Core.Path.{◌≡◌, refl, sym, ap, ◌∙◌}
use Prim.Native.Nat.{ℕ, zero, suc, ◌+◌, ◌*◌, ◌<◌, ◌≤◌}
use native.Mathlib.Omega.{arith}
use mathlib.Core.List.{List, [], ◌∷◌, ◌++◌, append_assoc, append-nil}
use lib.ListN.{length, take, get_or, length-append}
use Rattle.shared_words.specs.Bytes.{le, packed}
use Rattle.shared_words.proofs.Bytes.{length-packed}
use Rattle.studio_rules.specs.Layout.{Run, end, known, header, bytes}
use Rattle.studio_rules.proofs.Sound.{length-bytes}
use Rattle.studio_write_bytes.specs.Bare.{name_data}
use Rattle.studio_write_bytes.proofs.Bare.{leaf-bytes, last_chunk_bytes}
use Rattle.studio_figure_rules.specs.Given.{Group, Material, over, rgb}
use Rattle.studio_figure_rules.specs.Built.{group_data, smoothing_chunk, colour_chunk, material_children, material_chunk}
use Rattle.studio_figure_rules.proofs.InOrder.{chunk_bytes}
use Rattle.studio_figure_rules.proofs.OwnData.{length-name_data, length-group}
use Rattle.studio_figure_rules.proofs.Sizes.{material-size}
use Rattle.studio_figure_rows.specs.Rows.{run}
use Rattle.studio_figure_objects.specs.Sizes.{size_of_words}
use Rattle.studio_figure_chunks.specs.Chunks.{material_bytes, group_bytes}

-- numbers of one width, each as its bytes
pub over-le : (w : ℕ) (ns : List ℕ) → over (le w) ns ≡ packed w ns
over-le w [] = refl
over-le w (n ∷ ns) = ap (λ (k : List ℕ). le w n ++ k) (over-le w ns)

-- the bytes of the first i + 1 things, no more than those of all
pub over_more : {A : Type 0} (give : A → List ℕ) (xs : List A) (i : ℕ) (x : A) → i < length xs → x ≡ get_or xs i x → over give (take (i + 1) xs) ≡ over give (take i xs) ++ give x
over_more give [] i x h e = absurd (omega arith)
over_more give (y ∷ ys) zero x h e = append-nil (give y) ∙ ap give (sym e)
over_more give (y ∷ ys) (suc i) x h e =
    let n : suc i + 1 ≡ suc (i + 1) = omega arith in
    rw (n, over_more give ys i x (omega arith) e) (sym (append_assoc (give y) (over give (take i ys)) (give x)))

pub over-room : {A : Type 0} (give : A → List ℕ) (xs : List A) (i : ℕ) (x : A) → i < length xs → x ≡ get_or xs i x →
    length (over give (take i xs)) + length (give x) ≤ length (over give xs)
over-room give [] i x h e = absurd (omega arith)
over-room give (y ∷ ys) zero x h e = omega (arith, ap (λ (z : _). length (give z)) e, length-append (give y) (over give ys))
over-room give (y ∷ ys) (suc i) x h e =
    omega (arith, over-room give ys i x (omega arith) e, length-append (give y) (over give (take i ys)), length-append (give y) (over give ys))

-- what the first i things give, and the next
pub over_last : {A : Type 0} (give : A → List ℕ) (thing : ℕ → A) (i : ℕ) → over give (run thing 0 (i + 1)) ≡ over give (run thing 0 i) ++ give (thing i)
over_last give thing i = go 0 i ∙ (let z : 0 + i ≡ i = omega arith in rw z)
  where
    go : (a n : ℕ) → over give (run thing a (n + 1)) ≡ over give (run thing a n) ++ give (thing (a + n))
    go a zero = let z : a + 0 ≡ a = omega arith in rw z (append-nil (give (thing a)))
    go a (suc n) =
        let e : suc n + 1 ≡ suc (n + 1) = omega arith in
        let d : suc a + n ≡ a + suc n = omega arith in
        rw (e, go (suc a) n, d) (sym (append_assoc (give (thing a)) (over give (run thing (suc a) n)) (give (thing (a + suc n)))))

-- ---- materials

pub material-bytes : (m : Material) → material_bytes m ≡
    header 0xAFFF (58 + length m.name) ++ (header 0xA000 (7 + length m.name) ++ (name_data m.name ++
    (bytes (colour_chunk 0xA010 m.ambient end) ++ (bytes (colour_chunk 0xA020 m.diffuse end) ++ bytes (colour_chunk 0xA030 m.specular end)))))
material-bytes m =
    let name = name_data m.name in
    let blue : Run = colour_chunk 0xA030 m.specular end in
    let green : Run = colour_chunk 0xA020 m.diffuse blue in
    let red : Run = colour_chunk 0xA010 m.ambient green in
    let l = length-name_data m.name in
    let s = material-size m end in
    let leaf = leaf-bytes 0xA000 name (7 + length m.name) (omega arith) in
    last_chunk_bytes 0xAFFF [] (material_children m) (58 + length m.name) (omega arith) ∙
    ap (λ (k : List ℕ). header 0xAFFF (58 + length m.name) ++ k)
    (chunk_bytes 0xA000 name end red ∙
    ap (λ (k : List ℕ). k ++ bytes red) leaf ∙
    append_assoc (header 0xA000 (7 + length m.name)) name (bytes red) ∙
    ap (λ (k : List ℕ). header 0xA000 (7 + length m.name) ++ (name ++ k))
    (chunk_bytes 0xA010 [] (known 0x0011 (rgb m.ambient) end end) green ∙
    ap (λ (k : List ℕ). bytes (colour_chunk 0xA010 m.ambient end) ++ k) (chunk_bytes 0xA020 [] (known 0x0011 (rgb m.diffuse) end end) blue)))

pub material-length : (m : Material) → length (material_bytes m) ≡ 58 + length m.name
material-length m = length-bytes (material_chunk m end) ∙ material-size m end ∙ omega arith

-- ---- groups

pub group-bytes : (g : Group) → group_bytes g ≡
    header 0x4130 (9 + length g.name + 2 * length g.faces) ++ (name_data g.name ++ (le 2 (length g.faces) ++ packed 2 g.faces))
group-bytes g = leaf-bytes 0x4130 (group_data g) (9 + length g.name + 2 * length g.faces) (omega (arith, length-group g))

pub group-length : (g : Group) → length (group_bytes g) ≡ 9 + length g.name + 2 * length g.faces
group-length g = length-bytes (known 0x4130 (group_data g) end end) ∙ omega (arith, length-group g)

-- ---- smoothing words

pub smoothing_bytes : (words : List ℕ) → (length words ≡ 0 → ⊥) → bytes (smoothing_chunk words) ≡ header 0x4150 (6 + 4 * length words) ++ packed 4 words
smoothing_bytes [] h = absurd (h refl)
smoothing_bytes (w ∷ ws) h = leaf-bytes 0x4150 (packed 4 (w ∷ ws)) (6 + 4 * length (w ∷ ws)) (omega (arith, length-packed 4 (w ∷ ws)))

pub no_words : (words : List ℕ) → length words ≡ 0 → bytes (smoothing_chunk words) ≡ []
no_words [] h = refl
no_words (w ∷ ws) h = absurd (omega arith)

pub words_are : (n : ℕ) → (n ≡ 0 → ⊥) → size_of_words n ≡ 6 + 4 * n
words_are zero h = absurd (h refl)
words_are (suc n) h = refl
