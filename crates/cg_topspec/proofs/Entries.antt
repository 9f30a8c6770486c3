-- What holds of each entry above the instances.
use Rattle.std.proofs.Common.{Bool, List, [], codes, false, flat_map, inl, inr, map, subst, sym, true, ℕ, ◌++◌, ◌∷◌, ◌⊎◌}
use Rattle.cg_busspec.specs.CrossbarModule.{link_wires}
use Rattle.cg_desc.specs.declared.top.NodeEnd.{NodeEnd}
use Rattle.cg_desc.specs.declared.top.NodeEnd.TheVariants.{Face, Host, Outside, Xbar}
use Rattle.cg_svspec.specs.Links.{Link}
use Rattle.cg_svspec.specs.Names.{Among}
use Rattle.cg_svspec.specs.Tree.{Entry, Expression, assign, drive, wire}
use Rattle.cg_topspec.proofs.Built.{Built, instance_wires, top_assigns, top_nets}
use Rattle.cg_topspec.proofs.ListLemmas.{from_each, from_map, in_parts}
use Rattle.cg_topspec.specs.Nets.{alert_bit, input_pins, output_pins, own_link, pin_output_bit}
use Rattle.cg_topspec.specs.Top.{block_of, end_of, instance_numbers, is_host, ordered}
use Rattle.cg_topspec.specs.TopModule.{alert_wires, end_wires, interrupt_wires, node_wires, pad_outputs, pin_input_wires, pin_output_wires, vector_assign}

nets_by : (P : Entry → Type 0) → ((w : ℕ) (n : List ℕ) → P (wire w n)) → ((w : ℕ) (n : List ℕ) (x : Expression) → P (drive w n x)) → ((n : List ℕ) (x : Expression) → P (assign n x))
    → (top : Built) (e : Entry)
    → Among e (flat_map (node_wires top.merged) (ordered top.merged)) ⊎ Among e (flat_map (instance_wires top) (instance_numbers top.merged) ++ top_assigns top) → P e
nets_by P wired driven assigned top e a = first a where
  pair : (l : Link) → Among e (link_wires l) → P e
  pair l (inl s) = subst P (sym s) (wired 70 l.request)
  pair l (inr (inl s)) = subst P (sym s) (wired 33 l.response)
  pair l (inr (inr b)) = absurd b

  ended : (host : Bool) (l : Link) (end : NodeEnd) → Among e (end_wires host l end) → P e
  ended host l Outside b = absurd b
  ended true l (Xbar x) b = absurd b
  ended false l (Xbar x) b = pair l b
  ended true l (Face i f) b = pair l b
  ended false l (Face i f) b = pair l b
  ended true l (Host i f) b = pair l b
  ended false l (Host i f) b = pair l b

  vector : (name : List ℕ) (xs : List Expression) → Among e (vector_assign name xs) → P e
  vector name [] b = absurd b
  vector name (x ∷ xs) (inl s) = subst P (sym s) (assigned _ _)
  vector name (x ∷ xs) (inr b) = absurd b

  mio : Among e (vector_assign (codes "mio_out") (map (pin_output_bit top.merged) top.pins.outs)) ⊎ Among e (vector_assign (codes "pad_out") (pad_outputs top.merged top.pins)) → P e
  mio (inl b) = vector _ _ b
  mio (inr b) = vector _ _ b

  later : Among e (vector_assign (codes "alert_src") (map (alert_bit top.merged) top.numbers.alert))
      ⊎ Among e (vector_assign (codes "mio_out") (map (pin_output_bit top.merged) top.pins.outs) ++ vector_assign (codes "pad_out") (pad_outputs top.merged top.pins)) → P e
  later (inl b) = vector _ _ b
  later (inr b) = mio (in_parts e (vector_assign (codes "mio_out") (map (pin_output_bit top.merged) top.pins.outs)) _ b)

  assigns : Among e (top_assigns top) → P e
  assigns (inl s) = subst P (sym s) (assigned _ _)
  assigns (inr b) = later (in_parts e (vector_assign (codes "alert_src") (map (alert_bit top.merged) top.numbers.alert)) _ b)

  pins : (i : ℕ) → Among e (pin_output_wires top.merged i) ⊎ Among e (pin_input_wires top.merged top.pins i) → P e
  pins i (inl b) = let h = from_map _ (output_pins (block_of top.merged i)) e b in subst P (sym h.2) (wired _ _)
  pins i (inr b) = let h = from_map _ (input_pins (block_of top.merged i)) e b in subst P (sym h.2) (driven _ _ _)

  alerts : (i : ℕ) → Among e (alert_wires top.merged i) ⊎ Among e (pin_output_wires top.merged i ++ pin_input_wires top.merged top.pins i) → P e
  alerts i (inl b) = let h = from_map _ (block_of top.merged i).desc.alerts e b in subst P (sym h.2) (wired _ _)
  alerts i (inr b) = pins i (in_parts e (pin_output_wires top.merged i) _ b)

  wires : (i : ℕ) → Among e (interrupt_wires top.merged i) ⊎ Among e (alert_wires top.merged i ++ (pin_output_wires top.merged i ++ pin_input_wires top.merged top.pins i)) → P e
  wires i (inl b) = let h = from_map _ (block_of top.merged i).desc.intrs e b in subst P (sym h.2) (wired _ _)
  wires i (inr b) = alerts i (in_parts e (alert_wires top.merged i) _ b)

  second : Among e (flat_map (instance_wires top) (instance_numbers top.merged)) ⊎ Among e (top_assigns top) → P e
  second (inl b) = let h = from_each (instance_wires top) (instance_numbers top.merged) e b in wires h.0 (in_parts e (interrupt_wires top.merged h.0) _ h.2)
  second (inr b) = assigns b

  first : Among e (flat_map (node_wires top.merged) (ordered top.merged)) ⊎ Among e (flat_map (instance_wires top) (instance_numbers top.merged) ++ top_assigns top) → P e
  first (inl b) = let h = from_each (node_wires top.merged) (ordered top.merged) e b in ended (is_host top.merged h.0) (own_link top.merged h.0) (end_of top.merged h.0) h.2
  first (inr b) = second (in_parts e (flat_map (instance_wires top) (instance_numbers top.merged)) _ b)

-- Each entry above the instances is a wire, a wire with an expression, or an assignment.
pub nets_all : (P : Entry → Type 0) → ((w : ℕ) (n : List ℕ) → P (wire w n)) → ((w : ℕ) (n : List ℕ) (x : Expression) → P (drive w n x)) → ((n : List ℕ) (x : Expression) → P (assign n x))
    → (top : Built) (e : Entry) → Among e (top_nets top) → P e
nets_all P wired driven assigned top e a = nets_by P wired driven assigned top e (in_parts e (flat_map (node_wires top.merged) (ordered top.merged)) _ a)
