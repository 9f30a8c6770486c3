-- The tests of Fitting decide whether an instance fits.
use Rattle.std.proofs.Common.{◌≡◌, ℕ, ◌^◌, ◌<◌, Bool, true, false, cond, eqb, ltb, ◌&&◌, List, [], ◌∷◌, length, Option, Some, None, codes, refl, sym, ap, subst, ◌∙◌, arith}
use Rattle.std.specs.Bool.{Decides}
use Rattle.std.specs.Str.{bytes_eq}
use Rattle.std.proofs.lemmas.Bool.{eqb-true, eq-eqb, and_from, lt-ltb}
use Rattle.cg_svspec.specs.Tree.{Expression, net, cut, lit, cat, inv, any, and, or, equal, pick, Parameter, Connection}
use Rattle.cg_svspec.specs.Printable.{AllOf, IsNumberOrLiteral, IsPrintableParameter}
use Rattle.cg_svspec.specs.Value.{connection_at, parameter_at, flop_name}
use Rattle.cg_svspec.specs.WellFormed.{Net, HasWidth, IsOfWidth, HasPorts, IsBareNet, FlopFits, SocketFits, FifoFits, SomeWidth, PartFits, ConnectionsUse, flop_ports, split_ports, join_ports, fifo_ports, split_name, join_name, fifo_name}
use Rattle.cg_svspec.proofs.Runs.{both_pass}
use Rattle.cg_svcheck.specs.Plain.{Literal, literal_in}
use Rattle.cg_svcheck.specs.Widths.{width_of}
use Rattle.cg_svcheck.specs.Fitting.{is_of, has_some, is_of_width, ports_connected, are_connections, is_bare, flop_with, flop_fits, socket_with, socket_fits, fifo_fits, all_have_width, part_fits, connections_use_only}
use Rattle.cg_svcheck.proofs.Deciding.{decides_true, decides_false, decides_as, decides_both, decides_eq}
use Rattle.cg_svcheck.proofs.WidthsDecide.{Agrees, width_sound, width_complete, Tells, uses_decides}
use Rattle.cg_svcheck.proofs.CountsDecide.{connections_decide}

-- ---- widths

of_decides : (w : ℕ) (o : Option ℕ) → Decides (is_of w o) (o ≡ Some w)
of_decides w None = decides_false (λ e. cc)
of_decides w (Some u) = decides_as (decides_eq u w) (λ e. ap Some e) (λ e. let same : u ≡ w = cc in same)

pub width_decides : (e : List ℕ → Option ℕ) (nets : List Net) → Agrees e nets → (x : Expression) (w : ℕ) → Decides (is_of w (width_of e x)) (HasWidth nets x w)
width_decides e nets agree x w = decides_as (of_decides w (width_of e x)) (width_sound e nets agree x w) (width_complete e nets agree x w)

width_at_decides : (e : List ℕ → Option ℕ) (nets : List Net) → Agrees e nets → (w : ℕ) (o : Option Expression) → Decides (is_of_width e w o) (IsOfWidth nets w o)
width_at_decides e nets agree w None = decides_false (λ h. h)
width_at_decides e nets agree w (Some x) = width_decides e nets agree x w

-- some width
some_decides : (o : Option ℕ) → Decides (has_some o) ((w : ℕ) × (o ≡ Some w))
some_decides None = decides_false (λ h. let e = h.1 in cc)
some_decides (Some u) = decides_true (u, refl)

all_decide : (e : List ℕ → Option ℕ) (nets : List Net) → Agrees e nets → (cs : List Connection) → Decides (all_have_width e cs) (AllOf (SomeWidth nets) cs)
all_decide e nets agree [] = decides_true tt
all_decide e nets agree (c ∷ cs) = decides_both
    (decides_as (some_decides (width_of e c.value)) (λ h. (h.0, width_sound e nets agree c.value h.0 h.1)) (λ h. (h.0, width_complete e nets agree c.value h.0 h.1)))
    (all_decide e nets agree cs)

pub connections_use_decide : (k : List ℕ → Bool) (known : List (List ℕ)) → Tells k known → (cs : List Connection) → Decides (connections_use_only k cs) (ConnectionsUse known cs)
connections_use_decide k known tells [] = decides_true tt
connections_use_decide k known tells (c ∷ cs) = decides_both (uses_decides k known tells c.value) (connections_use_decide k known tells cs)

-- ---- ports

each_decides : (e : List ℕ → Option ℕ) (nets : List Net) → Agrees e nets → (cs : List Connection) (ports : List Net)
    → Decides (ports_connected e cs ports) (AllOf (λ p. IsOfWidth nets p.width (connection_at p.name cs)) ports)
each_decides e nets agree cs [] = decides_true tt
each_decides e nets agree cs (p ∷ ps) = decides_both (width_at_decides e nets agree p.width (connection_at p.name cs)) (each_decides e nets agree cs ps)

ports_decide : (e : List ℕ → Option ℕ) (nets : List Net) → Agrees e nets → (cs : List Connection) (ports : List Net) (k : ℕ) → length ports ≡ k
    → Decides (are_connections k cs && ports_connected e cs ports) (HasPorts nets ports cs)
ports_decide e nets agree cs ports k many =
    decides_as (decides_both (decides_both (decides_eq (length cs) k) (connections_decide cs)) (each_decides e nets agree cs ports))
    (λ h. record { once = h.0.1; count = h.0.0 ∙ sym many; each = h.1 })
    (λ h. ((h.count ∙ many, h.once), h.each))

bare_decides : (o : Option Expression) → Decides (is_bare o) (IsBareNet o)
bare_decides None = decides_false (λ h. h)
bare_decides (Some (net n)) = decides_true tt
bare_decides (Some (cut n m l)) = decides_false (λ h. h)
bare_decides (Some (lit w v)) = decides_false (λ h. h)
bare_decides (Some (cat ys)) = decides_false (λ h. h)
bare_decides (Some (inv y)) = decides_false (λ h. h)
bare_decides (Some (any y)) = decides_false (λ h. h)
bare_decides (Some (and y z)) = decides_false (λ h. h)
bare_decides (Some (or y z)) = decides_false (λ h. h)
bare_decides (Some (equal y z)) = decides_false (λ h. h)
bare_decides (Some (pick c y z)) = decides_false (λ h. h)

-- ---- literals

-- the parameter is the literal
lit_is : (o : Option Expression) (k : Literal) → literal_in o ≡ Some k → o ≡ Some (lit k.width k.value)
lit_is None k e = cc
lit_is (Some (lit w v)) k e = let same : record { width = w; value = v } ≡ k = cc in ap (λ (z : Literal). Some (lit z.width z.value)) same
lit_is (Some (net n)) k e = cc
lit_is (Some (cut n m l)) k e = cc
lit_is (Some (cat ys)) k e = cc
lit_is (Some (inv y)) k e = cc
lit_is (Some (any y)) k e = cc
lit_is (Some (and y z)) k e = cc
lit_is (Some (or y z)) k e = cc
lit_is (Some (equal y z)) k e = cc
lit_is (Some (pick c y z)) k e = cc

-- a literal with another width, which is the same
lit_with : (o : Option Expression) (l : Literal) (w : ℕ) → l.width ≡ w → literal_in o ≡ Some l → o ≡ Some (lit w l.value)
lit_with o l w is e = lit_is o l e ∙ ap (λ (k : ℕ). Some (lit k l.value)) is

-- ---- a flip-flop

abbrev FlopWith : List Net → List Connection → Option Expression → Option Expression → Type 0
FlopWith nets cs a b =
    (width : ℕ) × (reset : ℕ) × (a ≡ Some (lit 0 width)) × (b ≡ Some (lit width reset)) × HasPorts nets (flop_ports width) cs × IsBareNet (connection_at (codes "q_o") cs)

flop_up : (e : List ℕ → Option ℕ) (nets : List Net) → Agrees e nets → (cs : List Connection) (a b : Option Expression) (p q : Option Literal)
    → literal_in a ≡ p → literal_in b ≡ q → flop_with e cs p q ≡ true → FlopWith nets cs a b
flop_up e nets agree cs a b None q ea eb h = cc
flop_up e nets agree cs a b (Some w) None ea eb h = cc
flop_up e nets agree cs a b (Some w) (Some r) ea eb h =
    let flop : Bool = is_bare (connection_at (codes "q_o") cs) in
    let connected : Bool = ports_connected e cs (flop_ports w.value) in
    let whole = both_pass (eqb w.width 0 && eqb r.width w.value) (are_connections 4 cs && (connected && flop)) h in
    let numbers = both_pass (eqb w.width 0) (eqb r.width w.value) whole.0 in
    let others = both_pass (are_connections 4 cs) (connected && flop) whole.1 in
    let last = both_pass connected flop others.1 in (
      w.value,
      r.value,
      lit_with a w 0 (eqb-true w.width 0 numbers.0) ea,
      lit_with b r w.value (eqb-true r.width w.value numbers.1) eb,
      (ports_decide e nets agree cs (flop_ports w.value) 4 refl).0 (and_from (are_connections 4 cs) connected others.0 last.0),
      (bare_decides (connection_at (codes "q_o") cs)).0 last.1,
    )

flop_down : (e : List ℕ → Option ℕ) (nets : List Net) → Agrees e nets → (cs : List Connection) (width reset : ℕ) → HasPorts nets (flop_ports width) cs
    → IsBareNet (connection_at (codes "q_o") cs) → flop_with e cs (literal_in (Some (lit 0 width))) (literal_in (Some (lit width reset))) ≡ true
flop_down e nets agree cs width reset has bare =
    let connected : Bool = ports_connected e cs (flop_ports width) in
    let ports = both_pass (are_connections 4 cs) connected ((ports_decide e nets agree cs (flop_ports width) 4 refl).1 has) in
    let numbers : (eqb 0 0 && eqb width width) ≡ true = and_from (eqb 0 0) (eqb width width) refl (eq-eqb width width refl) in
    let last : (connected && is_bare (connection_at (codes "q_o") cs)) ≡ true = and_from _ _ ports.1 ((bare_decides (connection_at (codes "q_o") cs)).1 bare) in
    and_from _ _ numbers (and_from _ _ ports.0 last)

flop_decides : (e : List ℕ → Option ℕ) (nets : List Net) → Agrees e nets → (ps : List Parameter) (cs : List Connection) → Decides (flop_fits e ps cs) (FlopFits nets ps cs)
flop_decides e nets agree ps cs = (up, down) where
  up : flop_fits e ps cs ≡ true → FlopFits nets ps cs
  up h =
      let both = both_pass _ _ h in
      let flop = flop_up e nets agree cs (parameter_at (codes "Width") ps) (parameter_at (codes "ResetValue") ps) _ _ refl refl both.1 in
      record { width = flop.0; reset = flop.1; count = eqb-true (length ps) 2 both.0; width_is = flop.2; reset_is = flop.3; ports = flop.4; bare = flop.5 }

  down : FlopFits nets ps cs → flop_fits e ps cs ≡ true
  down f = and_from _ _ (eq-eqb (length ps) 2 f.count) (rw (f.width_is, f.reset_is) (flop_down e nets agree cs f.width f.reset f.ports f.bare))

-- ---- sockets

-- a plain number that can be printed is small
small : (o : Option Expression) (n : ℕ) → ((x : Expression) → o ≡ Some x → IsNumberOrLiteral x) → o ≡ Some (lit 0 n) → n < 2 ^ 16
small o n printable is = printable (lit 0 n) is

-- a parameter's value can be printed
value_printable : (name : List ℕ) (ps : List Parameter) → AllOf IsPrintableParameter ps → (x : Expression) → parameter_at name ps ≡ Some x → IsNumberOrLiteral x
value_printable name [] all x is = cc
value_printable name (p ∷ ps) all x is = by (value_printable name ps all.1 x) (bytes_eq p.name name) is where
  by : (parameter_at name ps ≡ Some x → IsNumberOrLiteral x) → (b : Bool) → cond b (Some p.value) (parameter_at name ps) ≡ Some x → IsNumberOrLiteral x
  by later true e = let same : p.value ≡ x = cc in subst IsNumberOrLiteral same all.0.1
  by later false e = later e

abbrev SocketWith : (ℕ → List Net) → List Net → List Connection → Option Expression → Type 0
SocketWith ports_of nets cs o = (links : ℕ) × (o ≡ Some (lit 0 links)) × HasPorts nets (ports_of links) cs

socket_up : (e : List ℕ → Option ℕ) (nets : List Net) → Agrees e nets → (k : ℕ) (ports_of : ℕ → List Net) → ((n : ℕ) → length (ports_of n) ≡ k) → (cs : List Connection)
    → (o : Option Expression) (p : Option Literal) → literal_in o ≡ p → socket_with k ports_of e cs p ≡ true → SocketWith ports_of nets cs o
socket_up e nets agree k ports_of many cs o None is h = cc
socket_up e nets agree k ports_of many cs o (Some l) is h =
    let whole = both_pass (eqb l.width 0 && ltb l.value (2 ^ 16)) (are_connections k cs && ports_connected e cs (ports_of l.value)) h in
    let numbers = both_pass (eqb l.width 0) (ltb l.value (2 ^ 16)) whole.0 in
    (l.value, lit_with o l 0 (eqb-true l.width 0 numbers.0) is, (ports_decide e nets agree cs (ports_of l.value) k (many l.value)).0 whole.1)

socket_decides : (e : List ℕ → Option ℕ) (nets : List Net) → Agrees e nets → (k : ℕ) (ports_of : ℕ → List Net) → ((n : ℕ) → length (ports_of n) ≡ k) → (number : List ℕ)
    → (ps : List Parameter) (cs : List Connection) → AllOf IsPrintableParameter ps → Decides (socket_fits k ports_of number e ps cs) (SocketFits number ports_of nets ps cs)
socket_decides e nets agree k ports_of many number ps cs printable = (up, down) where
  up : socket_fits k ports_of number e ps cs ≡ true → SocketFits number ports_of nets ps cs
  up h =
      let both = both_pass _ _ h in
      let socket = socket_up e nets agree k ports_of many cs (parameter_at number ps) _ refl both.1 in
      record { links = socket.0; count = eqb-true (length ps) 1 both.0; links_are = socket.1; ports = socket.2 }

  down : SocketFits number ports_of nets ps cs → socket_fits k ports_of number e ps cs ≡ true
  down f =
      let low : f.links < 2 ^ 16 = small (parameter_at number ps) f.links (value_printable number ps printable) f.links_are in
      let numbers : (eqb 0 0 && ltb f.links (2 ^ 16)) ≡ true = and_from (eqb 0 0) (ltb f.links (2 ^ 16)) refl (lt-ltb f.links (2 ^ 16) low) in
      and_from _ _ (eq-eqb (length ps) 1 f.count) (rw (f.links_are) (and_from _ _ numbers ((ports_decide e nets agree cs (ports_of f.links) k (many f.links)).1 f.ports)))

-- ---- the FIFO

-- no parameter
empty_is : (ps : List Parameter) → eqb (length ps) 0 ≡ true → ps ≡ []
empty_is [] h = refl
empty_is (p ∷ ps) h = let e = eqb-true (length (p ∷ ps)) 0 h in absurd (omega (arith, e))

fifo_decides : (e : List ℕ → Option ℕ) (nets : List Net) → Agrees e nets → (ps : List Parameter) (cs : List Connection) → Decides (fifo_fits e ps cs) (FifoFits nets ps cs)
fifo_decides e nets agree ps cs = decides_as
    (decides_both (empty_is ps, λ is. eq-eqb (length ps) 0 (ap (λ (l : List Parameter). length l) is)) (ports_decide e nets agree cs fifo_ports 6 refl))
    (λ h. record { no_parameter = h.0; ports = h.1 })
    (λ f. (f.no_parameter, f.ports))

-- ---- any instance

-- a choice of tests decides a choice of facts
decides_choice : {P Q : Type 0} {a b : Bool} (t : Bool) → Decides a P → Decides b Q → Decides (cond t a b) (cond t P Q)
decides_choice true d e = d
decides_choice false d e = e

-- The test decides whether an instance has the ports of its module.
pub part_decides : (e : List ℕ → Option ℕ) (nets : List Net) → Agrees e nets → (m : List ℕ) (ps : List Parameter) (cs : List Connection) → AllOf IsPrintableParameter ps
    → Decides (part_fits e m ps cs) (PartFits m nets ps cs)
unfolding part_fits
part_decides e nets agree m ps cs printable =
    decides_choice (bytes_eq m flop_name) (flop_decides e nets agree ps cs)
    (decides_choice (bytes_eq m split_name) (socket_decides e nets agree 6 split_ports (λ n. refl) (codes "N") ps cs printable)
    (decides_choice (bytes_eq m join_name) (socket_decides e nets agree 5 join_ports (λ n. refl) (codes "M") ps cs printable)
    (decides_choice (bytes_eq m fifo_name) (fifo_decides e nets agree ps cs) (all_decide e nets agree cs))))
