-- What a signal names in its top: ports by the instance, and the region of its bits.
use Rattle.std.proofs.Common.{◌≡◌, ℕ, List, [], ◌∷◌, map, Option, Some, None, refl, sym, ap, subst, ◌∙◌, arith}
use Rattle.std.specs.List.{position, slice_get}
use Rattle.std.specs.Str.{bytes_eq}
use Rattle.cg_desc.specs.FoundBase.{block_at, block_of}
use Rattle.cg_desc.specs.Merged.{BlockAt}
use Rattle.cg_desc.specs.Valid.{AreValidPins, IsValidBlock}
use Rattle.cg_desc.specs.declared.block.IoDesc.{IoDesc}
use Rattle.cg_desc.specs.declared.block.LaidBlock.{LaidBlock}
use Rattle.cg_desc.specs.declared.top.InstDesc.{InstDesc}
use Rattle.cg_desc.specs.declared.top.MergedTop.{MergedTop}
use Rattle.cg_desc.specs.declared.top.SignalDesc.{SignalDesc}
use Rattle.cg_irq.specs.Instances.{HasBlocks}
use Rattle.cg_irq.specs.declared.bits.Bit.{Bit}
use Rattle.cg_pinmux.specs.Regions.{InPart, InRegion, IsNormal, IsPad, IsPart, IsPartOf, IsRegion, IsRegionOf, ports_in, ports_of}
use Rattle.cg_pinmux.specs.Signals.{HasBit, HasPad, IsFirstOf, NamesBit, PortIs, instance_names}
use Rattle.cg_pinmux.specs.declared.region.Region.{Region}
use Rattle.cg_pinmux.proofs.Lists.{all_at}
use Rattle.cg_pinmux.proofs.Naming.{first_is, first_none, first_one}

-- ---- the block of an instance

block_found : (m : MergedTop) (i : ℕ) (block : LaidBlock) → BlockAt m i block → block_of m i ≡ Some block
unfolding block_of block_at
block_found m i block at = ap (block_at m.blocks) at.1 ∙ at.2

pub ports_are : (m : MergedTop) (i : ℕ) (block : LaidBlock) → BlockAt m i block → ports_of m i ≡ block.desc.ios
ports_are m i block at = ap ports_in (block_found m i block at)

found_block : (m : MergedTop) (i : ℕ) (block : LaidBlock) → block_of m i ≡ Some block → BlockAt m i block
unfolding block_of block_at
found_block m i block is = by (slice_get m.kinds i) refl is where
  by : (o : Option ℕ) → slice_get m.kinds i ≡ o → block_at m.blocks o ≡ Some block → BlockAt m i block
  by None at is = cc
  by (Some k) at is = (k, at, is)

-- a port that is there is one of a block
pub record HasPortAt (m : MergedTop) (i p : ℕ) (port : IoDesc) : Type 0 where
  pub block : LaidBlock
  pub at : BlockAt m i block
  pub is : PortIs block.desc.ios p port

pub port_there : (m : MergedTop) (i p : ℕ) (port : IoDesc) → PortIs (ports_of m i) p port → HasPortAt m i p port
port_there m i p port is = by (block_of m i) refl is where
  by : (o : Option LaidBlock) → block_of m i ≡ o → PortIs (ports_in o) p port → HasPortAt m i p port
  by None at is = cc
  by (Some block) at is = record { block = block; at = found_block m i block at; is = is }

pub valid_ports : (m : MergedTop) → HasBlocks m → (i : ℕ) → AreValidPins (ports_of m i)
valid_ports m has i = by (block_of m i) refl where
  by : (o : Option LaidBlock) → block_of m i ≡ o → AreValidPins (ports_in o)
  by None at = record {
    inputs = [];
    outputs = [];
    inouts = [];
    stand = refl;
    valid_inputs = tt;
    valid_outputs = tt;
    valid_inouts = tt;
    few_inputs = omega arith;
    few_outputs = omega arith;
    few_inouts = omega arith;
  }
  by (Some block) at =
      let there = found_block m i block at in
      (all_at (λ (b : LaidBlock). IsValidBlock b.desc) m.blocks there.0 block has.blocks there.2).pins

map_same : (xs : List (List ℕ)) → map (λ (pad : List ℕ). pad) xs ≡ xs
map_same [] = refl
map_same (x ∷ xs) = ap (λ ys. x ∷ ys) (map_same xs)

-- ---- the region of a signal

module _ (m : MergedTop) (s : SignalDesc) where
  -- a bit of the signal is one that its text names in the instance
  bit_named : (i : ℕ) → IsFirstOf (instance_names m) s.inst i → (b : Bit) → HasBit m s b → (b.inst ≡ i) × NamesBit (ports_of m i) s.port b.item b.bit
  bit_named i first b has =
      let same : b.inst ≡ i = first_one (λ (inst : InstDesc). inst.name) m.top.insts s.inst b.inst i has.instance first in
      let at : BlockAt m i has.block = subst (λ n. BlockAt m n has.block) same has.block_is in
      (same, subst (λ ps. NamesBit ps s.port b.item b.bit) (sym (ports_are m i has.block at)) has.names)

  pub no_instance : position (λ inst. bytes_eq inst.name s.inst) m.top.insts ≡ None → IsRegion m s None
  no_instance none b has = first_none (λ (inst : InstDesc). inst.name) m.top.insts s.inst none b.inst has.instance

  part_region : (i : ℕ) → IsFirstOf (instance_names m) s.inst i → (g : Region) → IsPartOf (ports_of m i) i s.port g → IsRegionOf m s g
  part_region i first g part =
      let here : ports_of m i ≡ ports_of m g.inst = ap (ports_of m) (sym part.instance) in
      record { normal = subst (λ ps. IsNormal ps g) here part.normal; just = λ b. (to here b, from here b) }
    where
      to : ports_of m i ≡ ports_of m g.inst → (b : Bit) → HasBit m s b → InRegion m g b
      to here b has =
          let named = bit_named i first b has in
          record { instance = named.0 ∙ sym part.instance; part = subst (λ ps. InPart ps g b.item b.bit) here ((part.just b.item b.bit).0 named.1) }

      from : ports_of m i ≡ ports_of m g.inst → (b : Bit) → InRegion m g b → HasBit m s b
      from here b in_region =
          let inside : InPart (ports_of m i) g b.item b.bit = subst (λ ps. InPart ps g b.item b.bit) (sym here) in_region.part in
          let port = port_there m i b.item inside.port inside.is in
          let same : i ≡ b.inst = sym (in_region.instance ∙ part.instance) in
          record {
            instance = subst (λ n. IsFirstOf (instance_names m) s.inst n) same first;
            block = port.block;
            block_is = subst (λ n. BlockAt m n port.block) same port.at;
            names = subst (λ ps. NamesBit ps s.port b.item b.bit) (ports_are m i port.block port.at) ((part.just b.item b.bit).1 inside);
          }

  pub region_is : (i : ℕ) (result : Option Region) → position (λ inst. bytes_eq inst.name s.inst) m.top.insts ≡ Some i → IsPart (ports_of m i) i s.port result → IsRegion m s result
  region_is i None at part = λ b has.
      let named = bit_named i (first_is (λ (inst : InstDesc). inst.name) m.top.insts s.inst i at) b has in part b.item b.bit named.1
  region_is i (Some g) at part = part_region i (first_is (λ (inst : InstDesc). inst.name) m.top.insts s.inst i at) g part

  -- ---- its pad

  pub no_pad_written : s.pad ≡ None → IsPad m s None
  no_pad_written none k has = let e : None ≡ Some has.name = sym none ∙ has.written in cc

  pub no_such_pad : (name : List ℕ) → s.pad ≡ Some name → position (λ pad. bytes_eq pad name) m.top.pads ≡ None → IsPad m s None
  no_such_pad name written none k has =
      let e : Some name ≡ Some has.name = sym written ∙ has.written in
      let same : has.name ≡ name = cc in
      first_none (λ (pad : List ℕ). pad) m.top.pads name none k (subst (λ n. IsFirstOf (map (λ (pad : List ℕ). pad) m.top.pads) n k) same (subst (λ ps. IsFirstOf ps has.name k) (sym (map_same m.top.pads)) has.first))

  pub such_pad : (name : List ℕ) (k : ℕ) → s.pad ≡ Some name → position (λ pad. bytes_eq pad name) m.top.pads ≡ Some k → HasPad m s k
  such_pad name k written at = record {
    name = name;
    written = written;
    first = subst (λ ps. IsFirstOf ps name k) (map_same m.top.pads) (first_is (λ (pad : List ℕ). pad) m.top.pads name k at);
  }

-- a signal has one pad
pub one_pad : (m : MergedTop) (s : SignalDesc) (j k : ℕ) → HasPad m s j → HasPad m s k → j ≡ k
one_pad m s j k a b =
    let e : Some a.name ≡ Some b.name = sym a.written ∙ b.written in
    let same : a.name ≡ b.name = cc in
    let here : IsFirstOf (map (λ (pad : List ℕ). pad) m.top.pads) b.name j = subst (λ n. IsFirstOf (map (λ (pad : List ℕ). pad) m.top.pads) n j) same (subst (λ ps. IsFirstOf ps a.name j) (sym (map_same m.top.pads)) a.first) in
    let there : IsFirstOf (map (λ (pad : List ℕ). pad) m.top.pads) b.name k = subst (λ ps. IsFirstOf ps b.name k) (sym (map_same m.top.pads)) b.first in
    first_one (λ (pad : List ℕ). pad) m.top.pads b.name j k here there
