-- The numbers that are found are those of the instances' blocks.
use Rattle.std.proofs.Common.{◌≡◌, ℕ, List, length, map, Option, Some, None, unwrap_or, refl, sym, ap, subst, ◌∙◌}
use Rattle.std.specs.List.{position, slice_get}
use Rattle.std.specs.Str.{bytes_eq}
use Rattle.std.proofs.lemmas.Bool.{false≢true}
use Rattle.std.proofs.lemmas.List.{length-map}
use Rattle.std.proofs.lemmas.Slice.Eq.{bytes_eq-Decides}
use Rattle.cg_svspec.specs.Names.{Among}
use Rattle.cg_desc.specs.Ends.{BlockIs, InstanceIs}
use Rattle.cg_desc.specs.Merged.{AreKinds, design_of}
use Rattle.cg_desc.specs.Top.{AreItsFiles, Design, type_uses}
use Rattle.cg_desc.specs.declared.block.LaidBlock.{LaidBlock}
use Rattle.cg_desc.specs.declared.top.InstDesc.{InstDesc}
use Rattle.cg_desc.specs.declared.top.MergedTop.{MergedTop}
use Rattle.cg_desc.proofs.Numbered.{found_first, image_at, image_of, item_among, item_number, none_found, same_item}
use Rattle.cg_merge.specs.Kinds.{number_of}

-- the number of an instance's type is that of its block
pub number_is : (d : Design) → AreItsFiles d → (i : ℕ) (inst : InstDesc) → InstanceIs d i inst → (block : LaidBlock) × BlockIs d inst.kind (number_of d.blocks inst.kind) block
number_is d files i inst is = by (position (λ (b : LaidBlock). bytes_eq b.desc.name inst.kind) d.blocks) refl where
  used : Among inst.kind (type_uses d.top.insts)
  used = item_among (type_uses d.top.insts) i inst.kind (image_at (λ (x : InstDesc). x.kind) d.top.insts i inst is)

  by : (o : Option ℕ) → position (λ (b : LaidBlock). bytes_eq b.desc.name inst.kind) d.blocks ≡ o → (block : LaidBlock) × BlockIs d inst.kind (unwrap_or o 0) block
  by (Some k) found =
      let first = found_first (λ (b : LaidBlock). bytes_eq b.desc.name inst.kind) d.blocks k found in
      (first.item, record { is = first.is; named = (bytes_eq-Decides first.item.desc.name inst.kind).0 first.passes })
  by None none =
      let there = item_number (map (λ (b : LaidBlock). b.desc.name) d.blocks) inst.kind ((files.blocks.members inst.kind).1 used) in
      let block = image_of (λ (b : LaidBlock). b.desc.name) d.blocks there.0 inst.kind there.1 in
      absurd (false≢true (sym (none_found (λ (b : LaidBlock). bytes_eq b.desc.name inst.kind) d.blocks none there.0 block.0 block.1) ∙ (bytes_eq-Decides block.0.desc.name inst.kind).1 block.2))

pub are_kinds : (m : MergedTop) → AreItsFiles (design_of m) → m.kinds ≡ map (λ (inst : InstDesc). number_of m.blocks inst.kind) m.top.insts → AreKinds m
are_kinds m files is = record {
  count = ap length is ∙ length-map m.top.insts (λ (inst : InstDesc). number_of m.blocks inst.kind);
  each = λ i k inst there at. each i k inst there at;
} where
  each : (i k : ℕ) (inst : InstDesc) → InstanceIs (design_of m) i inst → slice_get m.kinds i ≡ Some k → (block : LaidBlock) × BlockIs (design_of m) inst.kind k block
  each i k inst there at =
      let own = image_at (λ (x : InstDesc). number_of m.blocks x.kind) m.top.insts i inst there in
      let mine = subst (λ (ks : List ℕ). slice_get ks i ≡ Some k) is at in
      let same : number_of m.blocks inst.kind ≡ k = same_item (map (λ (x : InstDesc). number_of m.blocks x.kind) m.top.insts) i (number_of m.blocks inst.kind) k own mine in
      let block = number_is (design_of m) files i inst there in
      (block.0, subst (λ n. BlockIs (design_of m) inst.kind n block.0) same block.1)
