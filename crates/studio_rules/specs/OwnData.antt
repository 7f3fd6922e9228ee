-- Own data: how many bytes it takes by its shape, and the numbers in it.
use Rattle.std.specs.Prelude.{ℕ, zero, suc, ◌+◌, ◌*◌, Bool, true, cond, List, [], ◌∷◌, eqb, leb, length, take, drop}
use Rattle.shared_words.specs.Bytes.{value, numbers}
use Rattle.studio_rules.specs.Table.{Shape, fixed, name, counted, each, named_words, named}
use Rattle.shared_words.specs.Labels.{fits_label}

-- A name is bytes up to and including the first zero byte. Where there is none, one byte more than there are.
abbrev pub name_size : List ℕ → ℕ
name_size [] = 1
name_size (b ∷ bs) = cond (eqb b 0) 1 (suc (name_size bs))

-- the count word with which own data begins; 0 where there is no own data
abbrev pub count : List ℕ → ℕ
count own = value (take 2 own)

-- The bytes that own data of a shape takes, where s follows the header and `around` is the own data of the chunk
-- around.
abbrev pub own_size : Shape → List ℕ → List ℕ → ℕ
own_size (fixed k) around s = k
own_size name around s = name_size s
own_size (counted k) around s = 2 + k * count s
own_size (each k) around s = k * count around
own_size named_words around s = name_size s + 2 + 2 * count (drop (name_size s) s)
own_size (named k) around s = name_size s + k

-- where the shape begins with a name, its zero is there
abbrev pub has_name : Shape → List ℕ → Bool
has_name (fixed k) s = true
has_name name s = leb (name_size s) (length s)
has_name (counted k) s = true
has_name (each k) s = true
has_name named_words s = leb (name_size s) (length s)
has_name (named k) s = leb (name_size s) (length s)

-- the bytes of a name, without its zero
abbrev pub text : List ℕ → List ℕ
text [] = []
text (b ∷ bs) = cond (eqb b 0) [] (b ∷ text bs)

-- where the shape begins with a name, it fits the label
abbrev pub name_fits : Shape → List ℕ → Bool
name_fits (fixed k) s = true
name_fits name s = fits_label (text s)
name_fits (counted k) s = true
name_fits (each k) s = true
name_fits named_words s = fits_label (text s)
name_fits (named k) s = fits_label (text s)

-- 4110: three floats a vertex; 4140: two floats a pair; each float as its 32 bits
abbrev pub vertex_numbers : List ℕ → List ℕ
vertex_numbers own = numbers 4 (3 * count own) (drop 2 own)

abbrev pub mapping_numbers : List ℕ → List ℕ
mapping_numbers own = numbers 4 (2 * count own) (drop 2 own)

-- 4120: f times three corner words and a flag word, of which the corners
abbrev pub corners : ℕ → List ℕ → List ℕ
corners zero s = []
corners (suc f) s = value (take 2 s) ∷ value (take 2 (drop 2 s)) ∷ value (take 2 (drop 4 s)) ∷ corners f (drop 8 s)

abbrev pub face_corners : List ℕ → List ℕ
face_corners own = corners (count own) (drop 2 own)

-- 4130: the words behind its name and its word k
abbrev pub face_numbers : List ℕ → List ℕ
face_numbers own = numbers 2 (count (drop (name_size own) own)) (drop (name_size own + 2) own)

-- B010: the last of the three words behind its name
abbrev pub father : List ℕ → ℕ
father own = value (take 2 (drop (name_size own + 4) own))

-- a word that stands for no father: the part is a root
abbrev pub root : ℕ
root = 65535
