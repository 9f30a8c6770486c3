-- The ports that are listed for an owner are its own.
use Rattle.std.proofs.Common.{◌≡◌, ◌+◌, ◌<◌, ◌≤◌, ℕ, true, false, List, [], ◌++◌, get_or, length, map, take, Some, None, refl, sym, ap, subst, ◌∙◌, arith}
use Rattle.std.specs.List.{slice_get}
use Rattle.std.proofs.Math.Dec.{ltb}
use Rattle.std.proofs.lemmas.Bool.{false≢true, lt-ltb, ltb-true}
use Rattle.std.proofs.lemmas.Option.{slice_get_past, slice_get_read}
use Rattle.cg_desc.specs.declared.block.LaidBlock.{LaidBlock}
use Rattle.cg_desc.specs.declared.crossbar.XbarDesc.{XbarDesc}
use Rattle.cg_desc.specs.declared.top.MergedTop.{MergedTop}
use Rattle.cg_desc.specs.declared.top.XbarUse.{XbarUse}
use Rattle.cg_clkrst.specs.Owned.{AreApart, AreOwn, AreTied, port_at, uses_before}
use Rattle.cg_clkrst.specs.Ports.{TiePort, block_uses, crossbar_uses, instance_uses}
use Rattle.cg_clkrst.specs.declared.ports.Port.{Port}
use Rattle.cg_clkrst.specs.declared.tie.Owner.{Owner}
use Rattle.cg_clkrst.specs.declared.tie.Owner.TheVariants.{Inst, Xbar}
use Rattle.cg_clkrst.specs.declared.tie.Tie.{Tie}
use Rattle.cg_clkrst.proofs.Owners.{crossbar_own, instance_apart, instance_own, listed_apart, next_instance, next_listed}

-- one more owner's ports
abbrev pub Adds : MergedTop → List TiePort → List Tie → List Tie → Type 0
Adds m ports old new = (uses : List TiePort) → AreTied m uses old → AreApart uses ports → AreTied m (uses ++ ports) new

module _ (m : MergedTop) (i k : ℕ) (block : LaidBlock) (kind : slice_get m.kinds i ≡ Some k) (is : slice_get m.blocks k ≡ Some block) (owner : Owner) (at : owner ≡ Inst i) (ports found : List Port)
    (listed : ports ≡ found) (all : (j : ℕ) → map (port_at (Inst j)) found ≡ block_uses j (Some block)) where
  instance_ports : map (port_at owner) ports ≡ block_uses i (slice_get m.blocks k)
  instance_ports = (λ t. map (port_at (at t)) (listed t)) ∙ all i ∙ ap (block_uses i) (sym is)

  pub of_instance : AreOwn m owner (map (port_at owner) ports)
  of_instance = subst (AreOwn m owner) (sym instance_ports) (subst (λ o. AreOwn m o (block_uses i (slice_get m.blocks k))) (sym at) (instance_own m i k kind))

  pub tied_instance : (old new : List Tie) → Adds m (map (port_at owner) ports) old new → AreTied m (instance_uses m.blocks 0 (take i m.kinds)) old → AreTied m (instance_uses m.blocks 0 (take (i + 1) m.kinds)) new
  tied_instance old new adds are =
      let uses : List TiePort = instance_uses m.blocks 0 (take i m.kinds) in
      subst (λ l. AreTied m l new) (ap (λ l. uses ++ l) instance_ports ∙ sym (next_instance m i k kind))
      (adds uses are (subst (AreApart uses) (sym instance_ports) (instance_apart m i (slice_get m.blocks k))))

module _ (m : MergedTop) (x : ℕ) (u : XbarUse) (xbar : XbarDesc) (there : slice_get m.top.xbars x ≡ Some u) (is : slice_get m.xbars x ≡ Some xbar) (owner : Owner) (at : owner ≡ Xbar x) (ports found : List Port)
    (listed : ports ≡ found) (all : (j : ℕ) → map (port_at (Xbar j)) found ≡ crossbar_uses j (Some xbar)) where
  crossbar_ports : map (port_at owner) ports ≡ crossbar_uses x (slice_get m.xbars x)
  crossbar_ports = (λ t. map (port_at (at t)) (listed t)) ∙ all x ∙ ap (crossbar_uses x) (sym is)

  pub of_crossbar : AreOwn m owner (map (port_at owner) ports)
  of_crossbar = subst (AreOwn m owner) (sym crossbar_ports) (subst (λ o. AreOwn m o (crossbar_uses x (slice_get m.xbars x))) (sym at) (crossbar_own m x u there))

  pub tied_crossbar : (old new : List Tie) → Adds m (map (port_at owner) ports) old new → AreTied m (uses_before m x) old → AreTied m (uses_before m (x + 1)) new
  tied_crossbar old new adds are =
      subst (λ l. AreTied m l new) (ap (λ l. uses_before m x ++ l) crossbar_ports ∙ sym (next_listed m x u there))
      (adds (uses_before m x) are (subst (AreApart (uses_before m x)) (sym crossbar_ports) (listed_apart m x (slice_get m.xbars x))))

-- a listed crossbar that is not there has no port
pub no_ports : (m : MergedTop) (x : ℕ) (u : XbarUse) → slice_get m.top.xbars x ≡ Some u → slice_get m.xbars x ≡ None → AreOwn m (Xbar x) []
no_ports m x u there none = subst (λ o. AreOwn m (Xbar x) (crossbar_uses x o)) none (crossbar_own m x u there)

-- ---- a crossbar by its number

pub found_there : (xs : List XbarDesc) (n : ℕ) (x : XbarDesc) → true ≡ ltb n (length xs) → x ≡ get_or xs n x → slice_get xs n ≡ Some x
found_there xs n x some is = slice_get_read xs (length xs) n x refl (ltb-true n (length xs) (sym some)) is

pub found_none : (xs : List XbarDesc) (n : ℕ) → false ≡ ltb n (length xs) → slice_get xs n ≡ None
found_none xs n none = slice_get_past xs n (at_least n (length xs) (λ less. false≢true (none ∙ lt-ltb n (length xs) less))) where
  at_least : (n k : ℕ) → (n < k → ⊥) → k ≤ n
  at_least n k h = omega (arith, h)
