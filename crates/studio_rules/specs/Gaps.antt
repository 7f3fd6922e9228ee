-- Demand 3's words: chunks put into the gaps of a file, or taken out of them.
-- One layout tells both files: some of its skipped chunks are marked as put in. The file that has them keeps them, the
-- other leaves them out. Taken out is the same, read the other way.
use Rattle.std.specs.Prelude.{◌≡◌, ℕ, ◌+◌, true, ◌&&◌, cond, List, [], ◌∷◌, ◌++◌, ltb, leb, length}
use Rattle.studio_rules.specs.declared.Record.{Record}
use Rattle.studio_rules.specs.Table.{plus}
use Rattle.studio_rules.specs.Layout.{Run, size}
use Rattle.studio_rules.specs.Rules.{unlisted}
use Rattle.studio_rules.specs.Gives.{Mesh}

-- a layout in which some skipped chunks are marked: `put`
pub data Marked : Type 0 where
  end : Marked
  put : ℕ → List ℕ → Marked → Marked
  skip : ℕ → List ℕ → Marked → Marked
  known : ℕ → List ℕ → Marked → Marked → Marked

-- the file without them, and the file with them. (`bytes` computes the lengths: that of every chunk around is raised.)
abbrev pub without : Marked → Run
without end = Run.end
without (put id body rest) = without rest
without (skip id body rest) = Run.skip id body (without rest)
without (known id own kids rest) = Run.known id own (without kids) (without rest)

abbrev pub with : Marked → Run
with end = Run.end
with (put id body rest) = Run.skip id body (with rest)
with (skip id body rest) = Run.skip id body (with rest)
with (known id own kids rest) = Run.known id own (with kids) (with rest)

abbrev pub figure_of : Marked → Marked
figure_of m = known 0x4D4D [] m end

-- A gap is a known chunk whose row ends in "+", and a spot in it: right after its own data or after any of its children.
-- The chunks put into the run of p are unlisted and stand in gaps.
abbrev pub InGaps : ℕ → Marked → Type 0
InGaps p end = Unit
InGaps p (put id body rest) = (plus p ≡ true) × (unlisted id ≡ true) × InGaps p rest
InGaps p (skip id body rest) = InGaps p rest
InGaps p (known id own kids rest) = InGaps id kids × InGaps p rest

-- ---- what was put in, as the chunks stand in the file that has them

pub record Piece : Type 0 where
  pub at : ℕ
  pub len : ℕ

-- the chunks put into a run that begins at o
abbrev pub pieces : ℕ → Marked → List Piece
pieces o end = []
pieces o (put id body rest) = record { at = o; len = 6 + length body } ∷ pieces (o + (6 + length body)) rest
pieces o (skip id body rest) = pieces (o + (6 + length body)) rest
pieces o (known id own kids rest) = pieces (o + (6 + length own)) kids ++ pieces (o + (6 + length own + size (with kids))) rest

-- the bytes of those that begin from x on and before y
abbrev pub bytes_put : ℕ → ℕ → List Piece → ℕ
bytes_put x y [] = 0
bytes_put x y (p ∷ ps) = cond (leb x p.at && ltb p.at y) p.len 0 + bytes_put x y ps

abbrev pub before : ℕ → List Piece → ℕ
before o ps = bytes_put 0 o ps

abbrev pub in_chunk : Record → List Piece → ℕ
in_chunk r ps = bytes_put r.offset (r.offset + r.len) ps

-- ---- what that does to a record, and to a mesh

-- the offset is the old one plus the bytes put in before it, the length plus those inside it, and no other number changes
pub record Moved (ps : List Piece) (old new : Record) : Type 0 where
  pub identifier-same : new.identifier ≡ old.identifier
  pub offset_grows : new.offset ≡ old.offset + before new.offset ps
  pub length-grows : new.len ≡ old.len + in_chunk new ps
  pub depth_same : new.depth ≡ old.depth
  pub parent-same : new.parent ≡ old.parent
  pub own_same : new.own ≡ old.own
  pub next-same : new.next ≡ old.next

-- the tables are the same bit for bit; the name keeps its length, and its offset grows like the others
pub record SameMesh (ps : List Piece) (old new : Mesh) : Type 0 where
  pub name-grows : new.name_at ≡ old.name_at + before new.name_at ps
  pub name-length-same : new.name_length ≡ old.name_length
  pub vertex-count-same : new.vertex_count ≡ old.vertex_count
  pub vertices-same : new.vertices ≡ old.vertices
  pub face-count-same : new.face_count ≡ old.face_count
  pub corners-same : new.corners ≡ old.corners
  pub pair_count_same : new.pair_count ≡ old.pair_count
  pub mapping_same : new.mapping ≡ old.mapping
