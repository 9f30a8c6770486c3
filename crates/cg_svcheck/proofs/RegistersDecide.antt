-- The tests of Registers decide what is a register module.
use Rattle.std.proofs.Common.{◌≡◌, ◌≤◌, Bool, true, false, ◌&&◌, cond, eqb, List, [], ◌∷◌, ◌++◌, Option, Some, None, codes, refl, sym, ap, ◌∙◌}
use Rattle.std.specs.Bool.{Decides}
use Rattle.std.specs.List.{list_all}
use Rattle.std.specs.Str.{bytes_eq}
use Rattle.std.proofs.lemmas.Bool.{eqb-true, eq-eqb}
use Rattle.cg_svspec.specs.Tree.{Expression, net, cut, lit, cat, inv, any, and, or, equal, pick, Port, Entry, wire, drive, assign, inst, Module}
use Rattle.cg_svspec.specs.Printable.{AllOf}
use Rattle.cg_svspec.specs.Value.{parameter_at}
use Rattle.cg_svspec.specs.Register.{access_ports, IsNarrow, IsRegisterEntry, IsRegister}
use Rattle.cg_svspec.proofs.Runs.{both_pass}
use Rattle.cg_svspec.proofs.NamesLemmas.{same_name, name_is_itself}
use Rattle.cg_svcheck.specs.Plain.{literal_in}
use Rattle.cg_svcheck.specs.RegisterTests.{same_way, is_port, ports_behind, is_narrow_port, is_narrow, is_register_entry, are_narrow, is_register}
use Rattle.cg_svcheck.proofs.Deciding.{decides_true, decides_false, decides_as, decides_both, decides_all, decides_le}

-- ---- ports

same_way_is : (a b : Bool) → same_way a b ≡ true → a ≡ b
same_way_is true b e = sym e
same_way_is false true e = cc
same_way_is false false e = refl

same_way_itself : (a : Bool) → same_way a a ≡ true
same_way_itself true = refl
same_way_itself false = refl

-- a port that passes is the wanted one
port_is : (wanted p : Port) → is_port wanted p ≡ true → p ≡ wanted
unfolding is_port
port_is wanted p e =
    let first = both_pass (same_way p.input wanted.input) (eqb p.width wanted.width && bytes_eq p.name wanted.name) e in
    let second = both_pass (eqb p.width wanted.width) (bytes_eq p.name wanted.name) first.1 in
    let way = same_way_is p.input wanted.input first.0 in
    let wide = eqb-true p.width wanted.width second.0 in
    let named = same_name p.name wanted.name second.1 in
    λ i. record { input = way i; width = wide i; name = named i }

port_itself : (p : Port) → is_port p p ≡ true
unfolding is_port
port_itself p = rw (same_way_itself p.input, eq-eqb p.width p.width refl, name_is_itself p.name) refl

-- what is found behind the wanted ports stands there
behind_is : (ws ps others : List Port) → ports_behind ws ps ≡ Some others → ps ≡ ws ++ others
behind_is [] ps others e = let same : ps ≡ others = cc in same
behind_is (w ∷ ws) [] others e = cc
behind_is (w ∷ ws) (p ∷ ps) others e = by (behind_is ws ps others) (is_port w p) refl e where
  by : (ports_behind ws ps ≡ Some others → ps ≡ ws ++ others) → (b : Bool) → is_port w p ≡ b → cond b (ports_behind ws ps) None ≡ Some others → p ∷ ps ≡ w ∷ (ws ++ others)
  by later true is e = let head = port_is w p is in let tail = later e in λ i. head i ∷ tail i
  by later false is e = cc

-- and is found
behind_found : (ws others : List Port) → ports_behind ws (ws ++ others) ≡ Some others
behind_found [] others = refl
behind_found (w ∷ ws) others = rw (port_itself w) (behind_found ws others)

-- ---- entries

narrow_decides : (o : Option Expression) → Decides (is_narrow (literal_in o)) (IsNarrow o)
narrow_decides None = decides_false (λ h. h)
narrow_decides (Some (lit z w)) = decides_le w 32
narrow_decides (Some (net n)) = decides_false (λ h. h)
narrow_decides (Some (cut n m l)) = decides_false (λ h. h)
narrow_decides (Some (cat xs)) = decides_false (λ h. h)
narrow_decides (Some (inv x)) = decides_false (λ h. h)
narrow_decides (Some (any x)) = decides_false (λ h. h)
narrow_decides (Some (and x y)) = decides_false (λ h. h)
narrow_decides (Some (or x y)) = decides_false (λ h. h)
narrow_decides (Some (equal x y)) = decides_false (λ h. h)
narrow_decides (Some (pick c x y)) = decides_false (λ h. h)

register_entry_decides : (e : Entry) → Decides (is_register_entry e) (IsRegisterEntry e)
register_entry_decides (wire w n) = decides_true tt
register_entry_decides (drive w n x) = decides_true tt
register_entry_decides (assign n x) = decides_true tt
register_entry_decides (inst m ps n cs) = decides_both (λ e. e, λ e. e) (narrow_decides (parameter_at (codes "Width") ps))

-- ---- the whole

abbrev Narrow : List Port → Type 0
Narrow = AllOf (λ p. p.width ≤ 32)

narrow_ports : (ps : List Port) → Decides (list_all is_narrow_port ps) (Narrow ps)
narrow_ports = decides_all is_narrow_port (λ p. p.width ≤ 32) (λ p. decides_le p.width 32)

-- the other ports, and that they are narrow
abbrev Others : List Port → List Port → Type 0
Others ws ps = (others : List Port) × (ps ≡ ws ++ others) × Narrow others

others_decide : (ws ps : List Port) → Decides (are_narrow (ports_behind ws ps)) (Others ws ps)
others_decide ws ps = (up (ports_behind ws ps) refl, down) where
  up : (o : Option (List Port)) → ports_behind ws ps ≡ o → are_narrow o ≡ true → Others ws ps
  up None is e = cc
  up (Some others) is e = (others, behind_is ws ps others is, (narrow_ports others).0 e)

  down : Others ws ps → are_narrow (ports_behind ws ps) ≡ true
  down h = ap (λ z. are_narrow (ports_behind ws z)) h.1 ∙ ap are_narrow (behind_found ws h.0) ∙ (narrow_ports h.0).1 h.2

-- The test decides whether a module is a register module.
pub register_decides : (m : Module) → Decides (is_register m) (IsRegister m)
unfolding is_register
register_decides m = decides_as (decides_both (others_decide access_ports m.ports) (decides_all is_register_entry IsRegisterEntry register_entry_decides m.entries))
    (λ h. record { others = h.0.0; ports = h.0.1; narrow = h.0.2; entries = h.1 })
    (λ r. ((r.others, r.ports, r.narrow), r.entries))
