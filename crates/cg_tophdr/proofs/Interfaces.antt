-- The definitions of a top's interfaces: each is good, and is the base or the size of an interface; and all of those are there.
use Rattle.std.proofs.Common.{◌≡◌, ℕ, ◌<◌, length, Some, inl, inr, sym, ap, subst, ◌∙◌, arith}
use Rattle.std.specs.List.{slice_get, flat_map}
use Rattle.std.specs.Prelude.{unwrap_or}
use Rattle.std.proofs.lemmas.Option.{slice_get_within}
use Rattle.cg_desc.proofs.FoundBases.{has_base, is_found}
use Rattle.cg_desc.specs.Ends.{InstanceIs}
use Rattle.cg_desc.specs.FoundBase.{found_base}
use Rattle.cg_desc.specs.Merged.{BaseIs, BlockAt, FaceAt, IsMerged, design_of}
use Rattle.cg_desc.specs.declared.block.LaidBlock.{LaidBlock}
use Rattle.cg_desc.specs.declared.block.LaidFace.{LaidFace}
use Rattle.cg_desc.specs.declared.top.InstDesc.{InstDesc}
use Rattle.cg_desc.specs.declared.top.MergedTop.{MergedTop}
use Rattle.cg_hdrspec.proofs.Definitions.{IsGood}
use Rattle.cg_hdrspec.specs.BlockHeader.{Definition, in_hexadecimal}
use Rattle.cg_hdrspec.specs.Header.{constant}
use Rattle.cg_irq.specs.declared.bits.IrqMap.{IrqMap}
use Rattle.cg_pinmux.specs.declared.map.PinMap.{PinMap}
use Rattle.cg_svspec.specs.Characters.{IsWord}
use Rattle.cg_svspec.specs.Names.{Among}
use Rattle.cg_topspec.proofs.Behind.{block_among}
use Rattle.cg_topspec.proofs.ListLemmas.{from_counting, from_each, in_counting, in_each}
use Rattle.cg_topspec.proofs.Relations.{item_of}
use Rattle.cg_topspec.specs.Top.{block_of, instance_numbers, instance_of, no_instance}
use Rattle.cg_tophdr.proofs.Instances.{base_small, block_is, instance_is, instance_word, interface_laid, interface_named, top_word, valid_laid}
use Rattle.cg_tophdr.proofs.NamesAreWords.{base_word, interface_word, size_word}
use Rattle.cg_tophdr.proofs.Numbered.{is_of_interface, of_interface_is}
use Rattle.cg_tophdr.specs.Meaning.{IsTopConstant, base, size}
use Rattle.cg_tophdr.specs.TopHeader.{base_of, instance_definitions, interface_definitions, interface_name, size_of}

-- the definition is good, and its constant is one of the top
pub record IsRight (m : MergedTop) (numbers : IrqMap) (pins : PinMap) (d : Definition) : Type 0 where
  pub good : IsGood d
  pub means : IsTopConstant m numbers pins (constant d.name d.value)

module _ (m : MergedTop) (merged : IsMerged m) (numbers : IrqMap) (pins : PinMap) where
  -- the base that is found for an interface is its base
  value_is : (i f b : ℕ) → BaseIs m i f b → unwrap_or (found_base m i f) 0 ≡ b
  value_is i f b is = ap (λ o. unwrap_or o 0) (is_found m merged.files merged.kinds i f b is)

  -- the two definitions of an interface
  pub interface_right : (i f : ℕ) (face : LaidFace) → i < length m.top.insts → slice_get (block_of m i).faces f ≡ Some face → (d : Definition) → Among d (interface_definitions m i f face) → IsRight m numbers pins d
  unfolding interface_definitions
  interface_right i f face less there d among = by d among where
    at : BlockAt m i (block_of m i)
    at = block_among m merged i less

    face_at : FaceAt m i f face
    face_at = (block_of m i, at, there)

    inst : InstanceIs (design_of m) i (instance_of m i)
    inst = item_of m.top.insts i no_instance less

    word : IsWord (interface_name m.top.name (instance_of m i).name face.name)
    word =
        interface_word m.top.name (instance_of m i).name face.name (top_word m merged) (instance_word m merged i (instance_of m i) inst)
        (interface_named (block_of m i) (valid_laid m merged i (block_of m i) at) f face there)

    found : (b : ℕ) × BaseIs m i f b
    found = has_base m merged i f face face_at

    base_right : IsRight m numbers pins (in_hexadecimal (base_of (interface_name m.top.name (instance_of m i).name face.name)) found.0)
    base_right = record {
      good = (base_word (interface_name m.top.name (instance_of m i).name face.name) word, omega (arith, base_small m merged i f found.0 found.1));
      means = base i f found.0 (instance_of m i) face inst face_at found.1;
    }

    size_right : IsRight m numbers pins (in_hexadecimal (size_of (interface_name m.top.name (instance_of m i).name face.name)) face.size)
    size_right = record {
      good = (
        size_word (interface_name m.top.name (instance_of m i).name face.name) word,
        omega (arith, (interface_laid (block_of m i) (valid_laid m merged i (block_of m i) at) f face there).few_bytes),
      );
      means = size i f (instance_of m i) face inst face_at;
    }

    by : (d : Definition) → Among d (interface_definitions m i f face) → IsRight m numbers pins d
    by d (inl is) =
        let e = is ∙ ap (in_hexadecimal (base_of (interface_name m.top.name (instance_of m i).name face.name))) (value_is i f found.0 found.1) in
        subst (IsRight m numbers pins) (sym e) base_right
    by d (inr (inl is)) = subst (IsRight m numbers pins) (sym is) size_right
    by d (inr (inr none)) = absurd none

  -- those of all instances
  pub interfaces_right : (d : Definition) → Among d (flat_map (instance_definitions m) (instance_numbers m)) → IsRight m numbers pins d
  interfaces_right d among =
      let inst = from_each (instance_definitions m) (instance_numbers m) d among in
      let less = from_counting 0 (length m.top.insts) inst.0 inst.1 in
      let one = is_of_interface m inst.0 0 (block_of m inst.0).faces d inst.2 in
      let number : one.number ≡ one.k = omega (arith, one.number_is) in
      interface_right inst.0 one.k one.face (omega (arith, less.1)) one.there d (subst (λ n. Among d (interface_definitions m inst.0 n one.face)) number one.is)

  -- ---- all are there

  -- a definition of an interface is among them
  interface_among : (i f : ℕ) (inst : InstDesc) (face : LaidFace) (d : Definition) → InstanceIs (design_of m) i inst → FaceAt m i f face
      → Among d (interface_definitions m i f face) → Among d (flat_map (instance_definitions m) (instance_numbers m))
  interface_among i f inst face d is at among =
      let less : i < length m.top.insts = slice_get_within m.top.insts i inst is in
      let there : slice_get (block_of m i).faces f ≡ Some face = subst (λ (b : LaidBlock). slice_get b.faces f ≡ Some face) (sym (block_is m i at.0 at.1)) at.2 in
      in_each (instance_definitions m) (instance_numbers m) i d (in_counting 0 (length m.top.insts) i (omega arith) (omega (arith, less)))
      (of_interface_is m i 0 (block_of m i).faces f face f d there (omega arith) among)

  named : (i : ℕ) (inst : InstDesc) (face : LaidFace) → InstanceIs (design_of m) i inst
      → interface_name m.top.name inst.name face.name ≡ interface_name m.top.name (instance_of m i).name face.name
  named i inst face is = ap (λ (j : InstDesc). interface_name m.top.name j.name face.name) (sym (instance_is m i inst is))

  pub base_there : (i f b : ℕ) (inst : InstDesc) (face : LaidFace) → InstanceIs (design_of m) i inst → FaceAt m i f face → BaseIs m i f b
      → Among (in_hexadecimal (base_of (interface_name m.top.name inst.name face.name)) b) (flat_map (instance_definitions m) (instance_numbers m))
  unfolding interface_definitions
  base_there i f b inst face is at base_is =
      interface_among i f inst face _ is at
      (inl (ap (λ n. in_hexadecimal (base_of n) b) (named i inst face is) ∙ ap (in_hexadecimal (base_of (interface_name m.top.name (instance_of m i).name face.name))) (sym (value_is i f b base_is))))

  pub size_there : (i f : ℕ) (inst : InstDesc) (face : LaidFace) → InstanceIs (design_of m) i inst → FaceAt m i f face
      → Among (in_hexadecimal (size_of (interface_name m.top.name inst.name face.name)) face.size) (flat_map (instance_definitions m) (instance_numbers m))
  unfolding interface_definitions
  size_there i f inst face is at = interface_among i f inst face _ is at (inr (inl (ap (λ n. in_hexadecimal (size_of n) face.size) (named i inst face is))))
