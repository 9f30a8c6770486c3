-- No two files that are written of a top have one name.
use Rattle.std.proofs.Common.{◌≡◌, ◌≢◌, ℕ, List, [], ◌∷◌, ◌++◌, codes, refl, sym, ap, subst, ◌∙◌, inl, inr, arith}
use Rattle.std.specs.Ordering.{nat_cmp}
use Rattle.std.specs.Cmp.Lexicographic.{slice_cmp, nat_list_cmp_total}
use Rattle.std.specs.declared.cmp.Ordering.TheVariants.{Less, Equal}
use Rattle.std.proofs.lemmas.Cmp.{tied_itself}
use Rattle.cg_svspec.specs.Names.{Among}
use Rattle.cg_manifest.specs.Manifest.{manifest_name}
use Rattle.cg_outputs.specs.declared.out_file.OutFile.{OutFile}
use Rattle.cg_outputs.specs.Outputs.{NameBefore, NamesDiffer, Rises}
use Rattle.cg_block.specs.Outputs as block
use Rattle.cg_crossbar.specs.Outputs as crossbar
use Rattle.cg_topspec.specs.TopModule.{top_module_name}
use Rattle.cg_chip.specs.Outputs.{AreWritten, IsText, of_top, header_of_top, completed_of_top, of_crossbar, header_of_block, completed_block, of_interface}
use Rattle.cg_chip.specs.declared.chip.Chip.{Chip}

-- ---- names that rise

before_apart : (a b : OutFile) → NameBefore a b → a.name ≢ b.name
before_apart a b before same = let bad : Less ≡ Equal = sym before ∙ ap (λ n. slice_cmp nat_cmp n b.name) same ∙ tied_itself nat_list_cmp_total b.name in cc

pub rises_differ : (os : List OutFile) → Rises os → NamesDiffer os
rises_differ [] rises = tt
rises_differ (o ∷ os) rises = ((λ p among. before_apart o p (rises.0 p among)), rises_differ os rises.1)

differ_behind : (os : List OutFile) (last : OutFile) → NamesDiffer os → ((o : OutFile) → Among o os → o.name ≢ last.name) → NamesDiffer (os ++ last ∷ [])
differ_behind [] last differ apart = ((λ p none. absurd none), tt)
differ_behind (o ∷ os) last differ apart = (from_all, differ_behind os last differ.1 (λ p among. apart p (inr among))) where
  among_behind : (ps : List OutFile) (p : OutFile) → ((q : OutFile) → Among q ps → ¬ (o.name ≡ q.name)) → Among p (ps ++ last ∷ []) → ¬ (o.name ≡ p.name)
  among_behind [] p each (inl is) same = apart o (inl refl) (same ∙ ap (λ (x : OutFile). x.name) is)
  among_behind [] p each (inr none) same = absurd none
  among_behind (q ∷ ps) p each (inl is) same = each q (inl refl) (same ∙ ap (λ (x : OutFile). x.name) is)
  among_behind (q ∷ ps) p each (inr among) same = among_behind ps p (λ x at. each x (inr at)) among same

  from_all : (p : OutFile) → Among p (os ++ last ∷ []) → ¬ (o.name ≡ p.name)
  from_all p among = among_behind os p differ.0 among

-- ---- the last byte of a name

abbrev EndsIn : ℕ → List ℕ → Type 0
EndsIn c [] = ⊥
EndsIn c (x ∷ []) = x ≡ c
EndsIn c (x ∷ y ∷ ys) = EndsIn c (y ∷ ys)

ends_behind : (c y : ℕ) (xs ys : List ℕ) → EndsIn c (y ∷ ys) → EndsIn c (xs ++ y ∷ ys)
ends_behind c y [] ys is = is
ends_behind c y (x ∷ []) ys is = is
ends_behind c y (x ∷ z ∷ xs) ys is = ends_behind c y (z ∷ xs) ys is

one_end : (c d : ℕ) (xs : List ℕ) → EndsIn c xs → EndsIn d xs → c ≡ d
one_end c d [] is also = absurd is
one_end c d (x ∷ []) is also = sym is ∙ also
one_end c d (x ∷ y ∷ ys) is also = one_end c d (y ∷ ys) is also

-- a name that ends in another byte than `manifest.txt`
other_end : (c : ℕ) (name : List ℕ) → c ≢ 116 → EndsIn c name → name ≢ manifest_name
other_end c name differs is same = differs (one_end c 116 manifest_name (subst (EndsIn c) same is) refl)

sv : (xs : List ℕ) → xs ++ codes ".sv" ≢ manifest_name
sv xs = other_end 118 (xs ++ codes ".sv") (λ e. absurd (omega (arith, e))) (ends_behind 118 46 xs (codes "sv") refl)

h : (xs : List ℕ) → xs ++ codes ".h" ≢ manifest_name
h xs = other_end 104 (xs ++ codes ".h") (λ e. absurd (omega (arith, e))) (ends_behind 104 46 xs (codes "h") refl)

regs_h : (xs : List ℕ) → xs ++ codes "_regs.h" ≢ manifest_name
regs_h xs = other_end 104 (xs ++ codes "_regs.h") (λ e. absurd (omega (arith, e))) (ends_behind 104 95 xs (codes "regs.h") refl)

gen_hjson : (xs : List ℕ) → xs ++ codes ".gen.hjson" ≢ manifest_name
gen_hjson xs = other_end 110 (xs ++ codes ".gen.hjson") (λ e. absurd (omega (arith, e))) (ends_behind 110 46 xs (codes "gen.hjson") refl)

-- ---- the files of a top

no_manifest : (c : Chip) (o : OutFile) → IsText c o → o.name ≢ manifest_name
no_manifest c _ of_top = sv (top_module_name c.source.merged)
no_manifest c _ header_of_top = h (top_module_name c.source.merged)
no_manifest c _ completed_of_top = gen_hjson (top_module_name c.source.merged)
no_manifest c _ (of_crossbar x xbar ranges is) = sv (crossbar.module_name_of xbar)
no_manifest c _ (header_of_block k laid tree is) = regs_h laid.desc.name
no_manifest c _ (completed_block k laid tree is) = gen_hjson laid.desc.name
no_manifest c _ (of_interface k laid tree face is among) = sv (block.module_name_of laid face)

-- the names differ
pub written_differ : (c : Chip) (os : List OutFile) → AreWritten c os → NamesDiffer os
written_differ c os w =
    subst NamesDiffer (sym w.with_manifest)
    (differ_behind w.texts _ (rises_differ w.texts w.are_texts.rises) (λ o among. no_manifest c o ((w.are_texts.member o).0 among)))
