use Rattle.std.proofs.Common.{[], ◌++◌, map, ap, sym, ◌∙◌, ◌≡◌, drop, List}
use Rattle.std.proofs.lemmas.List.{append-nil, drop_all}
use Rattle.std.specs.List.{filter}
use Rattle.cg_hjson.specs.declared.tree.Tree.{Tree}
use Rattle.cg_blkread.specs.Interfaces.{devices, interfaces, is_device}
use Rattle.cg_blkread.proofs.interfaces.devices.Goals as goal

pub returns : goal.returns
unfolding devices interfaces
returns c =
    let found : List Tree = map (λ t. t.now) c.loop-interface.found.items in
    let none : drop c.loop-interface.interface-index c.elements-interface-items.result.now ≡ [] = drop_all _ _ c.loop-interface-test.false in
    sym (ap (λ ts. found ++ filter is_device ts) none ∙ append-nil found) ∙ c.loop-interface.invariant ∙ ap (filter is_device) c.elements-interface-items.ensures
