-- The modules behind a top's in any order: a name finds in each order what it finds in one.
use Rattle.std.proofs.Common.{Bool, List, None, Option, Some, [], arith, cond, false, flat_map, inl, inr, length, map, refl, slice_get, subst, suc, sym, true, ℕ, ◌++◌, ◌<◌, ◌∙◌, ◌∷◌, ◌≡◌, ◌⊎◌}
use Rattle.std.proofs.lemmas.Option.{slice_get_within}
use Rattle.std.specs.Str.{bytes_eq}
use Rattle.cg_busspec.specs.Crossbar.{crossbar_of as with_ranges}
use Rattle.cg_busspec.specs.CrossbarModule.{crossbar_module}
use Rattle.cg_desc.proofs.Numbered.{item_among, item_at, item_number}
use Rattle.cg_desc.specs.declared.block.LaidBlock.{LaidBlock}
use Rattle.cg_desc.specs.declared.block.LaidFace.{LaidFace}
use Rattle.cg_desc.specs.declared.crossbar.XbarDesc.{XbarDesc}
use Rattle.cg_desc.specs.declared.top.MergedTop.{MergedTop}
use Rattle.cg_hjson.specs.declared.tree.Tree.{Tree}
use Rattle.cg_outputs.specs.declared.out_file.OutFile.{OutFile}
use Rattle.cg_regspec.specs.RegisterModule.{module_of_face, modules_of}
use Rattle.cg_svspec.proofs.NamesLemmas.{name_is_itself, same_name}
use Rattle.cg_svspec.specs.Names.{Among}
use Rattle.cg_svspec.specs.Tree.{Module}
use Rattle.cg_svspec.specs.Walk.{module_named}
use Rattle.cg_topspec.proofs.ListLemmas.{from_each, in_back, in_each, in_front, in_map, in_parts}
use Rattle.cg_topspec.specs.Modules.{HasCrossbarModule, HasModules, HasRegisterModule}
use Rattle.cg_crossbar.specs.Outputs as crossbar
use Rattle.cg_block.specs.Outputs as block
use Rattle.cg_chip.specs.Meaning.{AreBehind, IsBehind, first_module, of_crossbar, of_interface}
use Rattle.cg_chip.specs.Outputs.{IsBlock, IsCrossbar}
use Rattle.cg_chip.specs.declared.chip.Chip.{Chip}
use Rattle.cg_chip.specs.declared.chip.XbarRanges.{XbarRanges}
use Rattle.cg_chip.proofs.Items.{image_out}
use Rattle.cg_chip.proofs.MeaningModules.{crossbar_among, crossbar_modules}

-- ---- what a name finds

-- what a name finds is there, and has the name
record IsFound (ms : List Module) (n : List ℕ) (m : Module) : Type 0 where
  there : Among m ms
  named : m.name ≡ n

found : (ms : List Module) (n : List ℕ) (m : Module) → module_named ms n ≡ Some m → IsFound ms n m
found [] n m e = cc
found (x ∷ ms) n m e = by (found ms n m) (bytes_eq x.name n) refl e where
  by : (module_named ms n ≡ Some m → IsFound ms n m) → (b : Bool) → bytes_eq x.name n ≡ b → cond b (Some x) (module_named ms n) ≡ Some m → IsFound (x ∷ ms) n m
  by further true is e =
      let same : x ≡ m = cc in
      record { there = inl (sym same); named = subst (λ (z : Module). z.name ≡ n) same (same_name x.name n is) }
  by further false is e = let later = further e in record { there = inr later.there; named = later.named }

-- a name that finds nothing is none of theirs
missing : (ms : List Module) (n : List ℕ) (m : Module) → module_named ms n ≡ None → Among m ms → m.name ≡ n → ⊥
missing [] n m e there named = there
missing (x ∷ ms) n m e there named = by (λ none later. missing ms n m none later named) (bytes_eq x.name n) refl e there where
  by : (module_named ms n ≡ None → Among m ms → ⊥) → (b : Bool) → bytes_eq x.name n ≡ b → cond b (Some x) (module_named ms n) ≡ None → Among m (x ∷ ms) → ⊥
  by further true is e there = cc
  by further false is e (inl same) = differs (subst (λ (z : Module). z.name ≡ n) same named) where
    differs : x.name ≡ n → ⊥
    differs e = let itself = name_is_itself n in let other = subst (λ k. bytes_eq k n ≡ false) e is in cc
  by further false is e (inr later) = further e later

-- Where each module is what its name finds, each name finds in any list of the same modules what it finds in this.
pub same_finds : (ms ns : List Module) → ((m : Module) → Among m ms → module_named ms m.name ≡ Some m) → ((m : Module) → Among m ms → Among m ns)
    → ((m : Module) → Among m ns → Among m ms) → (n : List ℕ) → module_named ns n ≡ module_named ms n
same_finds ms ns each there back n = by (module_named ns n) refl where
  by : (o : Option Module) → module_named ns n ≡ o → module_named ns n ≡ module_named ms n
  by (Some m) is =
      let f = found ns n m is in
      is ∙ sym (subst (λ k. module_named ms k ≡ Some m) f.named (each m (back m f.there)))
  by None is = nothing (module_named ms n) refl where
    nothing : (o : Option Module) → module_named ms n ≡ o → module_named ns n ≡ module_named ms n
    nothing None e = is ∙ sym e
    nothing (Some m) e = let f = found ms n m e in absurd (missing ns n m is (there m f.there) f.named)

-- so the modules that a top needs are found there too
pub has_modules_in : (m : MergedTop) (ms ns : List Module) → HasModules m ms → ((n : List ℕ) → module_named ns n ≡ module_named ms n) → HasModules m ns
has_modules_in m ms ns has same = record {
  crossbars = λ x less. crossbar_in x (has.crossbars x less);
  registers = λ block face b f. register_in block face (has.registers block face b f);
  types = λ block b. same block.desc.name ∙ has.types block b;
} where
  crossbar_in : (x : ℕ) → HasCrossbarModule m ms x → HasCrossbarModule m ns x
  crossbar_in x h = record { ranges = h.ranges; are_its = h.are_its; found = same _ ∙ h.found; no_repeat = h.no_repeat }

  register_in : (block : LaidBlock) (face : LaidFace) → HasRegisterModule ms block face → HasRegisterModule ns block face
  register_in block face h = record { found = same _ ∙ h.found; no_repeat = h.no_repeat }

-- ---- one order

-- a module of a crossbar, by the crossbar's number
record IsOfCrossbar (xs : List XbarDesc) (rs : List XbarRanges) (m : Module) : Type 0 where
  place : ℕ
  xbar : XbarDesc
  ranges : XbarRanges
  is : slice_get xs place ≡ Some xbar
  ranges_are : slice_get rs place ≡ Some ranges
  module_is : m ≡ crossbar_module (with_ranges xbar ranges.ranges)

of_crossbars : (xs : List XbarDesc) (rs : List XbarRanges) (m : Module) → Among m (crossbar_modules xs rs) → IsOfCrossbar xs rs m
of_crossbars [] rs m there = absurd there
of_crossbars (x ∷ xs) [] m there = absurd there
of_crossbars (x ∷ xs) (r ∷ rs) m (inl same) = record { place = 0; xbar = x; ranges = r; is = refl; ranges_are = refl; module_is = same }
of_crossbars (x ∷ xs) (r ∷ rs) m (inr later) =
    let of = of_crossbars xs rs m later in
    record { place = suc of.place; xbar = of.xbar; ranges = of.ranges; is = of.is; ranges_are = of.ranges_are; module_is = of.module_is }

-- crossbars' modules in their order, and then those of blocks
abbrev pub in_order : Chip → List Module
in_order c = crossbar_modules c.source.merged.xbars c.ranges ++ flat_map modules_of c.source.merged.blocks

module _ (c : Chip) (trees : length c.source.blocks ≡ length c.source.merged.blocks) where
  behind_block : (m : Module) → Among m (flat_map modules_of c.source.merged.blocks) → (o : OutFile) × IsBehind c o m
  behind_block m there =
      let of = from_each modules_of c.source.merged.blocks m there in
      let face = image_out (module_of_face of.0) of.0.faces m of.2 in
      let place = item_number c.source.merged.blocks of.0 of.1 in
      let within : place.0 < length c.source.merged.blocks = slice_get_within c.source.merged.blocks place.0 of.0 place.1 in
      let tree = item_at c.source.blocks place.0 (omega (arith, within, trees)) in (
        block.register_output of.0 face.0,
        subst (IsBehind c (block.register_output of.0 face.0)) (sym face.2) (of_interface place.0 of.0 tree.0 face.0 (record { is = place.1; tree_is = tree.1 }) face.1),
      )

  behind_only : (m : Module) → Among m (in_order c) → (o : OutFile) × IsBehind c o m
  behind_only m there = by (in_parts m (crossbar_modules c.source.merged.xbars c.ranges) (flat_map modules_of c.source.merged.blocks) there) where
    by : Among m (crossbar_modules c.source.merged.xbars c.ranges) ⊎ Among m (flat_map modules_of c.source.merged.blocks) → (o : OutFile) × IsBehind c o m
    by (inl x) =
        let of = of_crossbars c.source.merged.xbars c.ranges m x in (
          crossbar.crossbar_output of.xbar of.ranges.ranges,
          subst (IsBehind c (crossbar.crossbar_output of.xbar of.ranges.ranges)) (sym of.module_is)
              (of_crossbar of.place of.xbar of.ranges (record { is = of.is; ranges_are = of.ranges_are })),
        )
    by (inr b) = behind_block m b

  behind_all : (o : OutFile) (m : Module) → IsBehind c o m → Among m (in_order c)
  behind_all _ _ (of_crossbar x xbar ranges at) =
      in_front _ (crossbar_modules c.source.merged.xbars c.ranges) _ (crossbar_among c.source.merged.xbars c.ranges x xbar ranges at.is at.ranges_are)
  behind_all _ _ (of_interface k laid tree face at there) =
      in_back _ (crossbar_modules c.source.merged.xbars c.ranges) _
      (in_each modules_of c.source.merged.blocks laid _ (item_among c.source.merged.blocks k laid at.is) (in_map (module_of_face laid) laid.faces face there))

  -- these are just the modules behind the top's
  pub are_in_order : AreBehind c (in_order c)
  are_in_order = record { only = behind_only; all = behind_all }

  -- and in each other order of them a top's modules are found as in this
  pub found_in_any : ((m : Module) → Among m (first_module c ∷ in_order c) → module_named (first_module c ∷ in_order c) m.name ≡ Some m)
      → HasModules c.source.merged (first_module c ∷ in_order c) → (ms : List Module) → AreBehind c ms → HasModules c.source.merged (first_module c ∷ ms)
  found_in_any each has ms are =
      has_modules_in c.source.merged (first_module c ∷ in_order c) (first_module c ∷ ms) has (same_finds (first_module c ∷ in_order c) (first_module c ∷ ms) each there back)
    where
      there : (m : Module) → Among m (first_module c ∷ in_order c) → Among m (first_module c ∷ ms)
      there m (inl same) = inl same
      there m (inr later) = let of = behind_only m later in inr (are.all of.0 m of.1)

      back : (m : Module) → Among m (first_module c ∷ ms) → Among m (first_module c ∷ in_order c)
      back m (inl same) = inl same
      back m (inr later) = let of = are.only m later in inr (behind_all of.0 m of.1)
