-- Where files break nothing, no name stands twice in what is written of them.
use Rattle.std.proofs.Common.{List, None, Option, Some, [], inl, inr, length, refl, subst, sym, ℕ, ◌∷◌, ◌≡◌, ◌<◌, arith}
use Rattle.std.proofs.lemmas.Option.{slice_get_within}
use Rattle.cg_desc.proofs.Numbered.{item_at, item_number}
use Rattle.cg_desc.specs.declared.block.LaidBlock.{LaidBlock}
use Rattle.cg_desc.specs.declared.block.LaidFace.{LaidFace}
use Rattle.cg_desc.specs.declared.crossbar.XbarDesc.{XbarDesc}
use Rattle.cg_desc.specs.declared.fault.Fault.{Fault}
use Rattle.cg_files.specs.Files.{File}
use Rattle.cg_hdrspec.specs.BlockHeader.{header_names}
use Rattle.cg_regspec.specs.RegisterModule.{module_of_face, modules_of}
use Rattle.cg_svspec.specs.Names.{Among, first_repeat, module_names}
use Rattle.cg_svspec.specs.Tree.{Module}
use Rattle.cg_tophdr.specs.TopHeader.{top_header_names}
use Rattle.cg_topspec.proofs.ListLemmas.{in_map}
use Rattle.cg_topspec.specs.Clashes as top
use Rattle.cg_topspec.specs.Clashes.{clash_lists}
use Rattle.cg_block.specs.Outputs as block
use Rattle.cg_crossbar.specs.Outputs as crossbar
use Rattle.cg_chip.specs.Chip.{IsChip}
use Rattle.cg_chip.specs.Outputs.{IsCrossbar, top_clash}
use Rattle.cg_chip.specs.Violations.{Violates, block_names, crossbar_names, top_names}
use Rattle.cg_chip.specs.declared.chip.Chip.{Chip}
use Rattle.cg_chip.specs.declared.chip.XbarRanges.{XbarRanges}
use Rattle.cg_chip.proofs.MeaningModules.{AreApart}

-- no name stands twice in the top's module and header, in a crossbar's module, and in a block's modules and header
pub record HasNoClash (c : Chip) : Type 0 where
  pub lists : top.first_clash (clash_lists c.source.merged c.irq c.ties c.pins) ≡ None
  pub header : first_repeat (top_header_names c.source.merged c.irq c.pins) ≡ None
  pub crossbars : (x : ℕ) (xbar : XbarDesc) (ranges : XbarRanges) → IsCrossbar c x xbar ranges → crossbar.clash_of xbar ranges.ranges ≡ None
  pub modules : (b : LaidBlock) (face : LaidFace) → Among b c.source.merged.blocks → Among face b.faces → first_repeat (module_names (module_of_face b face)) ≡ None
  pub headers : (b : LaidBlock) → Among b c.source.merged.blocks → first_repeat (header_names b) ≡ None

-- ---- what is not found

nothing : (o : Option (List ℕ)) → ((name : List ℕ) → o ≡ Some name → ⊥) → o ≡ None
nothing None h = refl
nothing (Some name) h = absurd (h name refl)

neither_of_top : (a b : Option (List ℕ)) → top.or_else a b ≡ None → (a ≡ None) × (b ≡ None)
neither_of_top None b e = (refl, e)
neither_of_top (Some a) b e = absurd (let bad : Some a ≡ None = e in cc)

neither_of_block : (a b : Option (List ℕ)) → block.or_else a b ≡ None → (a ≡ None) × (b ≡ None)
neither_of_block None b e = (refl, e)
neither_of_block (Some a) b e = absurd (let bad : Some a ≡ None = e in cc)

-- no module has a repeat where none is found
of_modules : (ms : List Module) → block.first_clash ms ≡ None → (m : Module) → Among m ms → first_repeat (module_names m) ≡ None
unfolding block.first_clash
of_modules [] none m among = absurd among
of_modules (n ∷ ms) none m (inl is) =
    subst (λ (k : Module). first_repeat (module_names k) ≡ None) (sym is) (neither_of_block (first_repeat (module_names n)) (block.first_clash ms) none).0
of_modules (n ∷ ms) none m (inr among) = of_modules ms (neither_of_block (first_repeat (module_names n)) (block.first_clash ms) none).1 m among

-- ---- files that break nothing

module _ (files : List File) (c : Chip) (is : IsChip files c) (unbroken : (f : Fault) → ¬ Violates files f) where
  top_apart : top_clash c ≡ None
  top_apart = nothing (top_clash c) (λ name clash. unbroken _ (top_names c name is clash))

  crossbar_apart : (x : ℕ) (xbar : XbarDesc) (ranges : XbarRanges) → IsCrossbar c x xbar ranges → crossbar.clash_of xbar ranges.ranges ≡ None
  crossbar_apart x xbar ranges at = nothing (crossbar.clash_of xbar ranges.ranges) (λ name clash. unbroken _ (crossbar_names c x xbar ranges name is at clash))

  block_apart : (b : LaidBlock) → Among b c.source.merged.blocks → block.clash_of b ≡ None
  block_apart b among =
      let place = item_number c.source.merged.blocks b among in
      let within : place.0 < length c.source.merged.blocks = slice_get_within c.source.merged.blocks place.0 b place.1 in
      let tree = item_at c.source.blocks place.0 (omega (arith, within, is.trees.count)) in
      nothing (block.clash_of b) (λ name clash. unbroken _ (block_names c place.0 b tree.0 name is (record { is = place.1; tree_is = tree.1 }) clash))

  both_apart : (b : LaidBlock) → Among b c.source.merged.blocks → (block.first_clash (modules_of b) ≡ None) × (first_repeat (header_names b) ≡ None)
  both_apart b among = neither_of_block (block.first_clash (modules_of b)) (first_repeat (header_names b)) (block_apart b among)

  both_of_top : (top.first_clash (clash_lists c.source.merged c.irq c.ties c.pins) ≡ None) × (first_repeat (top_header_names c.source.merged c.irq c.pins) ≡ None)
  both_of_top = neither_of_top (top.first_clash (clash_lists c.source.merged c.irq c.ties c.pins)) (first_repeat (top_header_names c.source.merged c.irq c.pins)) top_apart

  pub no_clash : HasNoClash c
  no_clash = record {
    lists = both_of_top.0;
    header = both_of_top.1;
    crossbars = crossbar_apart;
    modules = λ b face among there. of_modules (modules_of b) (both_apart b among).0 (module_of_face b face) (in_map (module_of_face b) b.faces face there);
    headers = λ b among. (both_apart b among).1;
  }

-- in no module a name stands twice
pub all_apart : (c : Chip) → HasNoClash c → AreApart c.source.merged c.ranges
all_apart c none = record {
  crossbars = λ x xbar ranges is ranges_are. none.crossbars x xbar ranges (record { is = is; ranges_are = ranges_are });
  registers = none.modules;
}
