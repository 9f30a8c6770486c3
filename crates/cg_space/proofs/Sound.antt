-- Nodes and ends by their numbers.
use Rattle.std.proofs.Common.{◌≡◌, ℕ, ◌<◌, List, Some, length, get_or, slice_get, refl, ◌∙◌, subst, arith}
use Rattle.std.proofs.lemmas.Option.{slice_get_within, slice_get_read, slice_get-get_or, get_or_from_slice_get}
use Rattle.cg_desc.specs.Merged.{BlockAt, EndAt, FaceAt, NodeAt}
use Rattle.cg_desc.specs.declared.block.LaidBlock.{LaidBlock}
use Rattle.cg_desc.specs.declared.block.LaidFace.{LaidFace}
use Rattle.cg_desc.specs.declared.crossbar.NodeDesc.{NodeDesc}
use Rattle.cg_desc.specs.declared.crossbar.XbarDesc.{XbarDesc}
use Rattle.cg_desc.specs.declared.top.MergedTop.{MergedTop}
use Rattle.cg_desc.specs.declared.top.NodeEnd.{NodeEnd}
use Rattle.cg_desc.specs.declared.top.XbarEnds.{XbarEnds}
use Rattle.cg_space.specs.Inner.Sound.{HasNode, IsSound}

-- what stands at a place is one thing
pub one_there : {X : Type 0} (xs : List X) (i : ℕ) (a b : X) → slice_get xs i ≡ Some a → slice_get xs i ≡ Some b → a ≡ b
one_there xs i a b p q = cc

pub one_node : (m : MergedTop) (x n : ℕ) (a b : NodeDesc) → NodeAt m x n a → NodeAt m x n b → a ≡ b
one_node m x n a b p q =
    let same : p.crossbar ≡ q.crossbar = one_there m.xbars x p.crossbar q.crossbar p.crossbar_is q.crossbar_is in
    one_there q.crossbar.nodes n a b (subst (λ (c : XbarDesc). slice_get c.nodes n ≡ Some a) same p.is) q.is

pub one_end : (m : MergedTop) (x n : ℕ) (a b : NodeEnd) → EndAt m x n a → EndAt m x n b → a ≡ b
one_end m x n a b p q =
    let same : p.0 ≡ q.0 = one_there m.ends x p.0 q.0 p.1 q.1 in
    one_there q.0.ends n a b (subst (λ (c : XbarEnds). slice_get c.ends n ≡ Some a) same p.2) q.2

pub xbar_within : (m : MergedTop) (x n : ℕ) → HasNode m x n → x < length m.xbars
xbar_within m x n has = slice_get_within m.xbars x has.1.crossbar has.1.crossbar_is

-- the crossbar that is read has the node
pub node_within : (m : MergedTop) (x n : ℕ) (xbar : XbarDesc) → HasNode m x n → xbar ≡ get_or m.xbars x xbar → n < length xbar.nodes
node_within m x n xbar has e =
    let same : xbar ≡ has.1.crossbar = e ∙ get_or_from_slice_get m.xbars x has.1.crossbar xbar has.1.crossbar_is in
    rw same (slice_get_within has.1.crossbar.nodes n has.0 has.1.is)

pub node_read : (m : MergedTop) (x n : ℕ) (xbar : XbarDesc) (node : NodeDesc) → x < length m.xbars → xbar ≡ get_or m.xbars x xbar → n < length xbar.nodes
    → node ≡ get_or xbar.nodes n node → NodeAt m x n node
node_read m x n xbar node h e k f = record {
  crossbar = xbar;
  crossbar_is = slice_get_read m.xbars (length m.xbars) x xbar refl h e;
  is = slice_get_read xbar.nodes (length xbar.nodes) n node refl k f;
}

pub ends_within : (m : MergedTop) (x n : ℕ) (ends : XbarEnds) → IsSound m → HasNode m x n → ends ≡ get_or m.ends x ends → n < length ends.ends
ends_within m x n ends sound has e =
    let there : x < length m.ends = omega (arith, sound.count, xbar_within m x n has) in
    let is : slice_get m.ends x ≡ Some ends = slice_get_read m.ends (length m.ends) x ends refl there e in
    rw (sound.counts x has.1.crossbar ends has.1.crossbar_is is) (slice_get_within has.1.crossbar.nodes n has.0 has.1.is)

pub end_read : (m : MergedTop) (x n : ℕ) (ends : XbarEnds) (end : NodeEnd) → IsSound m → HasNode m x n → ends ≡ get_or m.ends x ends
    → end ≡ get_or ends.ends n end → EndAt m x n end
end_read m x n ends end sound has e f =
    let there : x < length m.ends = omega (arith, sound.count, xbar_within m x n has) in (
      ends,
      slice_get_read m.ends (length m.ends) x ends refl there e,
      slice_get_read ends.ends (length ends.ends) n end refl (ends_within m x n ends sound has e) f,
    )

-- ---- blocks and interfaces

pub one_block_at : (m : MergedTop) (i : ℕ) (a b : LaidBlock) → BlockAt m i a → BlockAt m i b → a ≡ b
one_block_at m i a b p q =
    let kind : p.0 ≡ q.0 = one_there m.kinds i p.0 q.0 p.1 q.1 in
    one_there m.blocks q.0 a b (subst (λ k. slice_get m.blocks k ≡ Some a) kind p.2) q.2

pub one_face : (m : MergedTop) (i f : ℕ) (a b : LaidFace) → FaceAt m i f a → FaceAt m i f b → a ≡ b
one_face m i f a b p q =
    let block : p.0 ≡ q.0 = one_block_at m i p.0 q.0 p.1 q.1 in
    one_there q.0.faces f a b (subst (λ (l : LaidBlock). slice_get l.faces f ≡ Some a) block p.2) q.2

pub kind_within : (m : MergedTop) (i : ℕ) → ((block : LaidBlock) × BlockAt m i block) → i < length m.kinds
kind_within m i has = slice_get_within m.kinds i has.1.0 has.1.1

pub block_within : (m : MergedTop) (i d : ℕ) → ((block : LaidBlock) × BlockAt m i block) → get_or m.kinds i d < length m.blocks
block_within m i d has =
    rw (get_or_from_slice_get m.kinds i has.1.0 d has.1.1) (slice_get_within m.blocks has.1.0 has.0 has.1.2)

pub block_read : (m : MergedTop) (i d : ℕ) (block : LaidBlock) → ((known : LaidBlock) × BlockAt m i known) → block ≡ get_or m.blocks (get_or m.kinds i d) block → BlockAt m i block
block_read m i d block has is =
    (get_or m.kinds i d, slice_get-get_or m.kinds i d (kind_within m i has), slice_get_read m.blocks (length m.blocks) (get_or m.kinds i d) block refl (block_within m i d has) is)

pub face_within : (m : MergedTop) (i f : ℕ) (block : LaidBlock) → ((known : LaidFace) × FaceAt m i f known) → BlockAt m i block → f < length block.faces
face_within m i f block has is =
    rw (one_block_at m i block has.1.0 is has.1.1) (slice_get_within has.1.0.faces f has.0 has.1.2)

pub face_read : (m : MergedTop) (i f : ℕ) (block : LaidBlock) (face : LaidFace) → ((known : LaidFace) × FaceAt m i f known) → BlockAt m i block
    → face ≡ get_or block.faces f face → FaceAt m i f face
face_read m i f block face has is read = (block, is, slice_get_read block.faces (length block.faces) f face refl (face_within m i f block has is) read)
