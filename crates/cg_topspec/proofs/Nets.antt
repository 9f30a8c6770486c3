-- The nets of a top's links: each is declared once.
use Rattle.std.proofs.Common.{Bool, List, [], ap, append_assoc, arith, codes, cond, false, filter, flat_map, inl, inr, length, length-append, map, not, refl, subst, sym, take, true, ℕ, ◌++◌, ◌-◌, ◌∙◌, ◌∷◌, ◌≡◌, ◌⊎◌}
use Rattle.std.proofs.Math.Seq.{take-append_seam}
use Rattle.cg_desc.specs.declared.top.NodeEnd.{NodeEnd}
use Rattle.cg_desc.specs.declared.top.NodeEnd.TheVariants.{Face, Host, Outside, Xbar}
use Rattle.cg_svspec.proofs.NamesLemmas.{among_back, among_front, differ_across, differ_back, differ_front}
use Rattle.cg_svspec.specs.Links.{Link, answer_to}
use Rattle.cg_svspec.specs.Names.{Among, Differ, entry_names, port_names}
use Rattle.cg_svspec.specs.Register.{input_port}
use Rattle.cg_svspec.specs.Tree.{Entry, Port, assign, drive, inst, wire}
use Rattle.cg_topspec.proofs.Built.{Built, IsDevice, IsNode, crossbar_entry, instance_entry, instance_wires, top_assigns, top_entries, top_ports}
use Rattle.cg_topspec.proofs.ListLemmas.{from_each, in_back, in_each, in_front}
use Rattle.cg_topspec.specs.Nets.{clock_net, link_base, own_link, reset_net}
use Rattle.cg_topspec.specs.Top.{NodeId, counting, end_of, is_host, nodes_in, ordered, ordered_in}
use Rattle.cg_topspec.specs.TopModule.{end_ports, end_wires, node_ports, node_wires, number_ports, pin_ports}

-- ---- names of lists of ports and entries

port_names_append : (ps qs : List Port) → port_names (ps ++ qs) ≡ port_names ps ++ port_names qs
port_names_append [] qs = refl
port_names_append (p ∷ ps) qs = ap (λ ns. p.name ∷ ns) (port_names_append ps qs)

pub entry_names_append : (es fs : List Entry) → entry_names (es ++ fs) ≡ entry_names es ++ entry_names fs
entry_names_append [] fs = refl
entry_names_append (wire w n ∷ es) fs = ap (λ ns. n ∷ ns) (entry_names_append es fs)
entry_names_append (drive w n x ∷ es) fs = ap (λ ns. n ∷ ns) (entry_names_append es fs)
entry_names_append (assign n x ∷ es) fs = entry_names_append es fs
entry_names_append (inst m ps n cs ∷ es) fs = ap (λ ns. n ∷ ns) (entry_names_append es fs)

port_names_each : {A : Type 0} (f : A → List Port) (xs : List A) → port_names (flat_map f xs) ≡ flat_map (λ x. port_names (f x)) xs
port_names_each f [] = refl
port_names_each f (x ∷ xs) = port_names_append (f x) (flat_map f xs) ∙ ap (λ ns. port_names (f x) ++ ns) (port_names_each f xs)

entry_names_each : {A : Type 0} (f : A → List Entry) (xs : List A) → entry_names (flat_map f xs) ≡ flat_map (λ x. entry_names (f x)) xs
entry_names_each f [] = refl
entry_names_each f (x ∷ xs) = entry_names_append (f x) (flat_map f xs) ∙ ap (λ ns. entry_names (f x) ++ ns) (entry_names_each f xs)

among_each : {A : Type 0} (f : A → List (List ℕ)) (xs : List A) (x : A) (n : List ℕ) → Among x xs → Among n (f x) → Among n (flat_map f xs)
among_each f [] x n a b = absurd a
among_each f (y ∷ xs) x n (inl e) b = among_front n (f y) (flat_map f xs) (subst (λ z. Among n (f z)) e b)
among_each f (y ∷ xs) x n (inr a) b = among_back n (f y) (flat_map f xs) (among_each f xs x n a b)

-- Where no name stands twice in the parts together, parts that share a name are one.
one_part : {A : Type 0} (f : A → List (List ℕ)) (xs : List A) → Differ (flat_map f xs) → (x y : A) (n : List ℕ) → Among x xs → Among y xs → Among n (f x) → Among n (f y) → x ≡ y
one_part f [] d x y n a b p q = absurd a
one_part f (z ∷ xs) d x y n (inl a) (inl b) p q = a ∙ sym b
one_part f (z ∷ xs) d x y n (inl a) (inr b) p q = absurd (differ_across n (f z) (flat_map f xs) d (subst (λ u. Among n (f u)) a p) (among_each f xs y n b q))
one_part f (z ∷ xs) d x y n (inr a) (inl b) p q = absurd (differ_across n (f z) (flat_map f xs) d (subst (λ u. Among n (f u)) b q) (among_each f xs x n a p))
one_part f (z ∷ xs) d x y n (inr a) (inr b) p q = one_part f xs (differ_back (f z) (flat_map f xs) d) x y n a b p q

-- ---- all nodes are in the order of the text

pub in_those : {A : Type 0} (p : A → Bool) (xs : List A) (x : A) → Among x xs → p x ≡ true → Among x (filter p xs)
in_those p [] x a e = absurd a
in_those p (y ∷ xs) x a e = by (λ b. in_those p xs x b e) (p y) refl a where
  by : (Among x xs → Among x (filter p xs)) → (b : Bool) → p y ≡ b → Among x (y ∷ xs) → Among x (cond b (y ∷ filter p xs) (filter p xs))
  by again true is (inl s) = inl s
  by again true is (inr c) = inr (again c)
  by again false is (inl s) = let same : p x ≡ p y = ap p s in cc
  by again false is (inr c) = again c

pub from_those : {A : Type 0} (p : A → Bool) (xs : List A) (x : A) → Among x (filter p xs) → Among x xs × (p x ≡ true)
from_those p [] x a = absurd a
from_those p (y ∷ xs) x a = by (from_those p xs x) (p y) refl a where
  by : (Among x (filter p xs) → Among x xs × (p x ≡ true)) → (b : Bool) → p y ≡ b → Among x (cond b (y ∷ filter p xs) (filter p xs)) → Among x (y ∷ xs) × (p x ≡ true)
  by again true is (inl s) = (inl s, ap p s ∙ is)
  by again true is (inr c) = let h = again c in (inr h.0, h.1)
  by again false is c = let h = again c in (inr h.0, h.1)

pub in_ordered : (top : Built) (x : ℕ) (n : NodeId) → Among n (nodes_in top.merged x) → Among n (ordered_in top.merged x)
in_ordered top x n a = by (is_host top.merged n) refl where
  by : (b : Bool) → is_host top.merged n ≡ b → Among n (ordered_in top.merged x)
  by true e = in_front n _ _ (in_those (is_host top.merged) (nodes_in top.merged x) n a e)
  by false e = in_back n (filter (is_host top.merged) (nodes_in top.merged x)) _ (in_those (λ n. not (is_host top.merged n)) (nodes_in top.merged x) n a (ap not e))

pub all_ordered : (top : Built) (n : NodeId) → IsNode top.merged n → Among n (ordered top.merged)
all_ordered top n a =
    let h = from_each (nodes_in top.merged) (counting 0 (length top.merged.xbars)) n a in
    in_each (ordered_in top.merged) (counting 0 (length top.merged.xbars)) h.0 n h.1 (in_ordered top h.0 n h.2)

-- ---- each net of a link is declared once

-- the net is declared for the node: as a port, or as a wire
abbrev pub IsDeclared : Built → NodeId → List ℕ → Type 0
IsDeclared top n name = Among name (port_names (node_ports top.merged n)) ⊎ Among name (entry_names (node_wires top.merged n))

abbrev pub port_part : Built → NodeId → List (List ℕ)
port_part top n = port_names (node_ports top.merged n)

abbrev wire_part : Built → NodeId → List (List ℕ)
wire_part top n = entry_names (node_wires top.merged n)

-- the ports of clocks and resets, and those of interrupts, alerts and pins
abbrev pub clock_part : Built → List (List ℕ)
clock_part top = port_names (map (λ s. input_port 1 (clock_net s)) top.merged.top.sources)

abbrev pub reset_part : Built → List (List ℕ)
reset_part top = port_names (map (λ r. input_port 1 (reset_net r)) top.merged.top.resets)

abbrev pub source_part : Built → List (List ℕ)
source_part top = port_names (number_ports top.numbers ++ pin_ports top.merged top.pins)

abbrev later_entries : Built → List Entry
later_entries top =
    (flat_map (instance_wires top) (counting 0 (length top.merged.top.insts)) ++ top_assigns top)
    ++ (map (instance_entry top) (counting 0 (length top.merged.top.insts)) ++ map (crossbar_entry top) (counting 0 (length top.merged.xbars)))

pub ports_are : (top : Built) → port_names (top_ports top) ≡ clock_part top ++ (reset_part top ++ (flat_map (port_part top) (ordered top.merged) ++ source_part top))
ports_are top =
    port_names_append (map (λ s. input_port 1 (clock_net s)) top.merged.top.sources) _
    ∙ ap (λ z. clock_part top ++ z) (port_names_append (map (λ r. input_port 1 (reset_net r)) top.merged.top.resets) _
    ∙ ap (λ z. reset_part top ++ z) (port_names_append (flat_map (node_ports top.merged) (ordered top.merged)) _
    ∙ ap (λ z. z ++ source_part top) (port_names_each (node_ports top.merged) (ordered top.merged))))

entries_are : (top : Built) → entry_names (top_entries top) ≡ flat_map (wire_part top) (ordered top.merged) ++ entry_names (later_entries top)
entries_are top =
    ap entry_names (append_assoc (flat_map (node_wires top.merged) (ordered top.merged)) _ _)
    ∙ (entry_names_append (flat_map (node_wires top.merged) (ordered top.merged)) (later_entries top)
    ∙ ap (λ z. z ++ entry_names (later_entries top)) (entry_names_each (node_wires top.merged) (ordered top.merged)))

-- no name of the top module stands twice
abbrev pub NamesDiffer : Built → Type 0
NamesDiffer top = Differ (port_names (top_ports top) ++ entry_names (top_entries top))

ports_differ : (top : Built) → NamesDiffer top → Differ (flat_map (port_part top) (ordered top.merged))
ports_differ top d =
    differ_front (flat_map (port_part top) (ordered top.merged)) (source_part top)
    (differ_back (reset_part top) _ (differ_back (clock_part top) _ (subst Differ (ports_are top) (differ_front (port_names (top_ports top)) (entry_names (top_entries top)) d))))

wires_differ : (top : Built) → NamesDiffer top → Differ (flat_map (wire_part top) (ordered top.merged))
wires_differ top d =
    differ_front (flat_map (wire_part top) (ordered top.merged)) (entry_names (later_entries top))
    (subst Differ (entries_are top) (differ_back (port_names (top_ports top)) (entry_names (top_entries top)) d))

pub among_ports : (top : Built) (a : NodeId) (n : List ℕ) → IsNode top.merged a → Among n (port_names (node_ports top.merged a)) → Among n (port_names (top_ports top))
among_ports top a n is p =
    subst (Among n) (sym (ports_are top))
    (among_back n (clock_part top) _ (among_back n (reset_part top) _ (among_front n (flat_map (port_part top) (ordered top.merged)) _ (among_each (port_part top) (ordered top.merged) a n (all_ordered top a is) p))))

pub among_entries : (top : Built) (a : NodeId) (n : List ℕ) → IsNode top.merged a → Among n (entry_names (node_wires top.merged a)) → Among n (entry_names (top_entries top))
among_entries top a n is p =
    subst (Among n) (sym (entries_are top)) (among_front n (flat_map (wire_part top) (ordered top.merged)) _ (among_each (wire_part top) (ordered top.merged) a n (all_ordered top a is) p))

-- a wire's name is no port's
pub port_or_wire : (top : Built) → NamesDiffer top → (n : List ℕ) → Among n (port_names (top_ports top)) → Among n (entry_names (top_entries top)) → ⊥
port_or_wire top d n p q = differ_across n (port_names (top_ports top)) (entry_names (top_entries top)) d p q

-- Nodes for which one net is declared are one.
pub one_node : (top : Built) → NamesDiffer top → (a b : NodeId) (n : List ℕ) → IsNode top.merged a → IsNode top.merged b → IsDeclared top a n → IsDeclared top b n → a ≡ b
one_node top d a b n is_a is_b (inl p) (inl q) = one_part (port_part top) (ordered top.merged) (ports_differ top d) a b n (all_ordered top a is_a) (all_ordered top b is_b) p q
one_node top d a b n is_a is_b (inl p) (inr q) = absurd (port_or_wire top d n (among_ports top a n is_a p) (among_entries top b n is_b q))
one_node top d a b n is_a is_b (inr p) (inl q) = absurd (port_or_wire top d n (among_ports top b n is_b q) (among_entries top a n is_a p))
one_node top d a b n is_a is_b (inr p) (inr q) = one_part (wire_part top) (ordered top.merged) (wires_differ top d) a b n (all_ordered top a is_a) (all_ordered top b is_b) p q

-- ---- which nets are declared

-- a node's own link is there: a host's, but where it stands for an outer crossbar, and any device's
abbrev pub HasLink : Bool → NodeEnd → Type 0
HasLink true (Xbar x) = ⊥
HasLink _ _ = Unit {0}

declared_at : (host : Bool) (e : NodeEnd) (l : Link) → HasLink host e
    → (Among l.request (port_names (end_ports host l e)) ⊎ Among l.request (entry_names (end_wires host l e)))
    × (Among l.response (port_names (end_ports host l e)) ⊎ Among l.response (entry_names (end_wires host l e)))
declared_at true Outside l h = (inl (inl refl), inl (inr (inl refl)))
declared_at false Outside l h = (inl (inl refl), inl (inr (inl refl)))
declared_at true (Xbar x) l h = absurd h
declared_at false (Xbar x) l h = (inr (inl refl), inr (inr (inl refl)))
declared_at true (Face i f) l h = (inr (inl refl), inr (inr (inl refl)))
declared_at false (Face i f) l h = (inr (inl refl), inr (inr (inl refl)))
declared_at true (Host i f) l h = (inr (inl refl), inr (inr (inl refl)))
declared_at false (Host i f) l h = (inr (inl refl), inr (inr (inl refl)))

pub declared : (top : Built) (n : NodeId) → HasLink (is_host top.merged n) (end_of top.merged n) → IsDeclared top n (own_link top.merged n).request × IsDeclared top n (own_link top.merged n).response
declared top n h = declared_at (is_host top.merged n) (end_of top.merged n) (own_link top.merged n) h

-- a device has its link
pub device_has_link : (top : Built) (d : NodeId) → IsDevice top.merged d → HasLink (is_host top.merged d) (end_of top.merged d)
device_has_link top d is = rw is.1 (any (end_of top.merged d)) where
  any : (e : NodeEnd) → HasLink false e
  any (Xbar x) = tt
  any (Face i f) = tt
  any (Host i f) = tt
  any Outside = tt

-- ---- the ends of names

last : List ℕ → ℕ → ℕ
last [] d = d
last (x ∷ xs) d = last xs x

last_back : (xs : List ℕ) (y : ℕ) (ys : List ℕ) (d : ℕ) → last (xs ++ (y ∷ ys)) d ≡ last ys y
unfolding last
last_back [] y ys d = refl
last_back (x ∷ xs) y ys d = last_back xs y ys x

-- no request is a response
pub no_response : (xs ys : List ℕ) → xs ++ codes "_req" ≡ ys ++ codes "_rsp" → ⊥
unfolding last
no_response xs ys e = let same : 113 ≡ 112 = sym (last_back xs 95 (codes "req") 0) ∙ ap (λ z. last z 0) e ∙ last_back ys 95 (codes "rsp") 0 in omega (arith, same)

pub answer_of_request : (xs : List ℕ) → answer_to (xs ++ codes "_req") ≡ xs ++ codes "_rsp"
answer_of_request xs =
    let size : length (xs ++ codes "_req") - 4 ≡ length xs = omega (arith, length-append xs (codes "_req")) in
    ap (λ k. take k (xs ++ codes "_req") ++ codes "_rsp") size ∙ ap (λ z. z ++ codes "_rsp") (take-append_seam xs (codes "_req"))

-- ---- links that are one

pub request_is : (top : Built) (n : NodeId) → (own_link top.merged n).request ≡ link_base top.merged n ++ codes "_req"
unfolding own_link
request_is top n = refl

pub response_is : (top : Built) (n : NodeId) → (own_link top.merged n).response ≡ link_base top.merged n ++ codes "_rsp"
unfolding own_link
response_is top n = refl

pub one_request : (top : Built) → NamesDiffer top → (a b : NodeId) → IsNode top.merged a → IsNode top.merged b → HasLink (is_host top.merged a) (end_of top.merged a) → HasLink (is_host top.merged b) (end_of top.merged b)
    → (own_link top.merged a).request ≡ (own_link top.merged b).request → a ≡ b
one_request top d a b is_a is_b has_a has_b e =
    one_node top d a b (own_link top.merged a).request is_a is_b (declared top a has_a).0 (subst (IsDeclared top b) (sym e) (declared top b has_b).0)

pub no_own_response : (top : Built) (a b : NodeId) → (own_link top.merged a).response ≡ (own_link top.merged b).request → ⊥
no_own_response top a b e = no_response (link_base top.merged b) (link_base top.merged a) (sym (request_is top b) ∙ (sym e ∙ response_is top a))

-- a link's names begin with x
pub begins_with_x : (top : Built) (n : NodeId) → (rest : List ℕ) × ((own_link top.merged n).request ≡ 120 ∷ rest)
unfolding own_link
begins_with_x top n = (_, refl)
