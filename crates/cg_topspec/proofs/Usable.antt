-- Which nets of a top's module are declared and known behind its wires.
use Rattle.std.proofs.Common.{Bool, List, [], ap, arith, false, flat_map, inl, inr, refl, subst, sym, true, ℕ, ◌++◌, ◌+◌, ◌<◌, ◌∷◌, ◌≡◌, ◌⊎◌}
use Rattle.cg_busspec.proofs.Owners.{input_among}
use Rattle.cg_busspec.proofs.WellLinks.{port_in_nets}
use Rattle.cg_desc.specs.Merged.{IsMerged}
use Rattle.cg_desc.specs.Reach.{IsPlain}
use Rattle.cg_desc.specs.declared.top.NodeEnd.{NodeEnd}
use Rattle.cg_desc.specs.declared.top.NodeEnd.TheVariants.{Face, Host, Outside, Xbar}
use Rattle.cg_svspec.proofs.NamesLemmas.{among_back, among_front}
use Rattle.cg_svspec.proofs.Parts.{all_back, all_front, all_join}
use Rattle.cg_svspec.proofs.WellCounts.{among_counts, counts_among, plain_of}
use Rattle.cg_svspec.proofs.WellSound.{Above, Declared, GivenBy, Has, Up, after, all_given, up_after}
use Rattle.cg_svspec.specs.Links.{Link}
use Rattle.cg_svspec.specs.Names.{Among}
use Rattle.cg_svspec.specs.Printable.{AllOf, IsPrintableEntry}
use Rattle.cg_svspec.specs.Register.{input_port, output_port}
use Rattle.cg_svspec.specs.Tree.{Entry, Expression, Port, assign, drive, inst, wire}
use Rattle.cg_svspec.specs.WellFormed.{instance_driven, outputs_of, port_nets}
use Rattle.cg_topspec.proofs.Arrivals.{output_there}
use Rattle.cg_topspec.proofs.Built.{Built, IsDevice, IsHost, IsNode, instance_wires, top_assigns, top_entries, top_inputs, top_nets, top_ports}
use Rattle.cg_topspec.proofs.EachItem.{each_item}
use Rattle.cg_topspec.proofs.EntryCounts.{outputs, plains}
use Rattle.cg_topspec.proofs.Fitting.{IsUsable, usable_up}
use Rattle.cg_topspec.proofs.ListLemmas.{in_back, in_each, in_front, in_parts}
use Rattle.cg_topspec.proofs.Merges.{outer_given}
use Rattle.cg_topspec.proofs.Nets.{HasLink, NamesDiffer, all_ordered, device_has_link}
use Rattle.cg_topspec.proofs.PrintedTop.{entries_printable}
use Rattle.cg_topspec.proofs.TopBalance.{driven_of_top}
use Rattle.cg_topspec.proofs.TopConnections.{outer_device_is}
use Rattle.cg_topspec.proofs.TopDrivers.{AreNoParts}
use Rattle.cg_topspec.proofs.TopNets.{device_link_is, node_port_there}
use Rattle.cg_topspec.proofs.TopStart.{plain_has}
use Rattle.cg_topspec.proofs.Totals.{total}
use Rattle.cg_topspec.specs.Fits.{FitsTop}
use Rattle.cg_topspec.specs.Nets.{joined_link, link_of, or_own, own_link}
use Rattle.cg_topspec.specs.Top.{NodeId, end_of, instance_numbers, is_host, ordered}
use Rattle.cg_topspec.specs.TopModule.{end_ports, end_wires, node_ports, node_wires, top_instances}
use Rattle.cg_topspec.specs.WellFormed.{HasFewBits}

-- a sum is not 0 where one of its parts is not
total_some : {A : Type 0} (f : A → ℕ) (xs : List A) (x : A) → Among x xs → 0 < f x → 0 < total f xs
total_some f [] x a h = absurd a
total_some f (y ∷ xs) x (inl e) h = let same : f x ≡ f y = ap f e in omega (arith, same, h)
total_some f (y ∷ xs) x (inr a) h = let rest = total_some f xs x a h in omega (arith, rest)

-- a wire counts as a plain one
wire_counts : (w : ℕ) (n : List ℕ) (es : List Entry) → Among (wire w n) es → Among n (plain_of es)
wire_counts w n [] a = a
wire_counts w n (wire v k ∷ es) (inl e) = let same : n ≡ k = cc in inl same
wire_counts w n (wire v k ∷ es) (inr a) = inr (wire_counts w n es a)
wire_counts w n (drive v k x ∷ es) (inl e) = absurd cc
wire_counts w n (drive v k x ∷ es) (inr a) = wire_counts w n es a
wire_counts w n (assign k x ∷ es) (inl e) = absurd cc
wire_counts w n (assign k x ∷ es) (inr a) = wire_counts w n es a
wire_counts w n (inst p ps k cs ∷ es) (inl e) = absurd cc
wire_counts w n (inst p ps k cs ∷ es) (inr a) = wire_counts w n es a

-- the wires of nodes, and those of instances
abbrev pub top_wires : Built → List Entry
top_wires top = flat_map (node_wires top.merged) (ordered top.merged) ++ flat_map (instance_wires top) (instance_numbers top.merged)

-- what stands above all entries, and behind the wires
abbrev pub above_all : Built → Above
above_all top = record { nets = port_nets (top_ports top); known = top_inputs top ++ instance_driven (top_inputs top) (top_entries top) }

abbrev pub behind_wires : Built → Above
behind_wires top = after (above_all top) (top_wires top)

-- what the proofs of usable nets take for given
pub record IsGood (top : Built) : Type 0 where
  pub fits : FitsTop top.merged top.numbers top.ties top.pins
  pub few : HasFewBits top.numbers top.pins
  pub names : NamesDiffer top
  pub types : AreNoParts top.merged

module _ (top : Built) (good : IsGood top) where
  merged : IsMerged top.merged
  merged = good.fits.merged

  wires_printable : AllOf IsPrintableEntry (top_wires top)
  wires_printable =
      let all = entries_printable top.merged top.numbers top.ties top.pins good.fits good.few in
      let nodes = flat_map (node_wires top.merged) (ordered top.merged) in
      let wires = flat_map (instance_wires top) (instance_numbers top.merged) in
      let nets = all_front IsPrintableEntry (top_nets top) (top_instances top.merged top.ties) all in
      all_join IsPrintableEntry nodes wires (all_front IsPrintableEntry nodes (wires ++ top_assigns top) nets)
      (all_front IsPrintableEntry wires (top_assigns top) (all_back IsPrintableEntry nodes (wires ++ top_assigns top) nets))

  given_by_wires : AllOf (GivenBy (behind_wires top)) (top_wires top)
  given_by_wires = all_given (above_all top) (top_wires top) wires_printable

  -- all that stands above the entries stands behind the wires
  pub up_wires : Up (above_all top) (behind_wires top)
  up_wires = up_after (above_all top) (top_wires top)

  -- what instances drive may be used
  driven_known : (n : List ℕ) → 0 < plains n (top_entries top) + total (λ k. outputs n (node_ports top.merged k)) (ordered top.merged)
      → Among n (above_all top).known
  driven_known n some =
      let all = driven_of_top top merged good.fits.ties_are good.names good.types n in
      among_back n (top_inputs top) (instance_driven (top_inputs top) (top_entries top))
      (counts_among n (instance_driven (top_inputs top) (top_entries top)) (omega (arith, all, some)))

  -- ---- ports

  pub input_usable : (p : Port) → Among p (top_ports top) → p.input ≡ true → IsUsable (above_all top) p.name p.width
  input_usable p a e = record { declared = port_in_nets p (top_ports top) a; known = among_front p.name (top_inputs top) _ (input_among p (top_ports top) a e) }

  node_output_usable : (k : NodeId) → IsNode top.merged k → (p : Port) → Among p (node_ports top.merged k) → p.input ≡ false
      → IsUsable (behind_wires top) p.name p.width
  node_output_usable k there p a e =
      usable_up p.name p.width up_wires
      (record {
        declared = port_in_nets p (top_ports top) (node_port_there top k there p a);
        known = driven_known p.name
            (more (plains p.name (top_entries top)) (total (λ k. outputs p.name (node_ports top.merged k)) (ordered top.merged))
            (total_some (λ k. outputs p.name (node_ports top.merged k)) (ordered top.merged) k (all_ordered top k there)
            (among_counts p.name (outputs_of (node_ports top.merged k)) (output_there (node_ports top.merged k) p a e))));
      })
    where
      more : (a b : ℕ) → 0 < b → 0 < a + b
      more a b h = omega (arith, h)

  node_input_usable : (k : NodeId) → IsNode top.merged k → (p : Port) → Among p (node_ports top.merged k) → p.input ≡ true
      → IsUsable (behind_wires top) p.name p.width
  node_input_usable k there p a e = usable_up p.name p.width up_wires (input_usable p (node_port_there top k there p a) e)

  -- ---- wires

  pub wire_usable : (w : ℕ) (n : List ℕ) → Among (wire w n) (top_wires top) → IsUsable (behind_wires top) n w
  wire_usable w n a =
      let given : Declared (behind_wires top) n w = each_item (GivenBy (behind_wires top)) (top_wires top) given_by_wires (wire w n) a in
      record {
        declared = given.net;
        known = up_wires.known n
            (driven_known n
            (more (plains n (top_entries top)) (total (λ k. outputs n (node_ports top.merged k)) (ordered top.merged))
            (among_counts n (plain_of (top_entries top)) (wire_counts w n (top_entries top) (among_entries_too (wire w n) a)))));
      }
    where
      more : (a b : ℕ) → 0 < a → 0 < a + b
      more a b h = omega (arith, h)

      among_entries_too : (e : Entry) → Among e (top_wires top) → Among e (top_entries top)
      among_entries_too e a =
          in_front e (top_nets top) _ (by (in_parts e (flat_map (node_wires top.merged) (ordered top.merged))
          (flat_map (instance_wires top) (instance_numbers top.merged)) a)) where
            by : Among e (flat_map (node_wires top.merged) (ordered top.merged)) ⊎ Among e (flat_map (instance_wires top) (instance_numbers top.merged))
                → Among e (top_nets top)
            by (inl b) = in_front e (flat_map (node_wires top.merged) (ordered top.merged)) _ b
            by (inr b) =
                in_back e (flat_map (node_wires top.merged) (ordered top.merged)) _
                (in_front e (flat_map (instance_wires top) (instance_numbers top.merged)) (top_assigns top) b)

  pub drive_usable : (w : ℕ) (n : List ℕ) (x : Expression) → Among (drive w n x) (top_wires top) → IsUsable (behind_wires top) n w
  drive_usable w n x a =
      let given : Has (behind_wires top) n w = each_item (GivenBy (behind_wires top)) (top_wires top) given_by_wires (drive w n x) a in
      record { declared = given.declared.net; known = given.known }

  -- ---- links

  pub record LinkUsable (l : Link) : Type 0 where
    pub request : IsUsable (behind_wires top) l.request 70
    pub response : IsUsable (behind_wires top) l.response 33

  pub own_usable : (k : NodeId) → IsNode top.merged k → HasLink (is_host top.merged k) (end_of top.merged k) → LinkUsable (own_link top.merged k)
  own_usable k there has =
      by (is_host top.merged k) (end_of top.merged k) has (λ p a e. node_input_usable k there p a e)
      (λ p a e. node_output_usable k there p a e) wire_there where
        wire_there : (w : ℕ) (n : List ℕ) → Among (wire w n) (node_wires top.merged k) → IsUsable (behind_wires top) n w
        wire_there w n a =
            wire_usable w n (in_front (wire w n) (flat_map (node_wires top.merged) (ordered top.merged)) _
            (in_each (node_wires top.merged) (ordered top.merged) k (wire w n) (all_ordered top k there) a))

        by : (b : Bool) (e : NodeEnd) → HasLink b e
            → ((p : Port) → Among p (end_ports b (own_link top.merged k) e) → p.input ≡ true → IsUsable (behind_wires top) p.name p.width)
            → ((p : Port) → Among p (end_ports b (own_link top.merged k) e) → p.input ≡ false → IsUsable (behind_wires top) p.name p.width)
            → ((w : ℕ) (n : List ℕ) → Among (wire w n) (end_wires b (own_link top.merged k) e) → IsUsable (behind_wires top) n w)
            → LinkUsable (own_link top.merged k)
        by true Outside h ins outs wires = record {
          request = ins (input_port 70 (own_link top.merged k).request) (inl refl) refl;
          response = outs (output_port 33 (own_link top.merged k).response) (inr (inl refl)) refl;
        }
        by false Outside h ins outs wires = record {
          request = outs (output_port 70 (own_link top.merged k).request) (inl refl) refl;
          response = ins (input_port 33 (own_link top.merged k).response) (inr (inl refl)) refl;
        }
        by true (Xbar x) h ins outs wires = absurd h
        by false (Xbar x) h ins outs wires = record {
          request = wires 70 (own_link top.merged k).request (inl refl);
          response = wires 33 (own_link top.merged k).response (inr (inl refl));
        }
        by true (Face i f) h ins outs wires = record {
          request = wires 70 (own_link top.merged k).request (inl refl);
          response = wires 33 (own_link top.merged k).response (inr (inl refl));
        }
        by false (Face i f) h ins outs wires = record {
          request = wires 70 (own_link top.merged k).request (inl refl);
          response = wires 33 (own_link top.merged k).response (inr (inl refl));
        }
        by true (Host i f) h ins outs wires = record {
          request = wires 70 (own_link top.merged k).request (inl refl);
          response = wires 33 (own_link top.merged k).response (inr (inl refl));
        }
        by false (Host i f) h ins outs wires = record {
          request = wires 70 (own_link top.merged k).request (inl refl);
          response = wires 33 (own_link top.merged k).response (inr (inl refl));
        }

  pub device_usable : (d : NodeId) → IsDevice top.merged d → LinkUsable (own_link top.merged d)
  device_usable d is = own_usable d is.0 (device_has_link top d is)

  pub host_usable : (h : NodeId) → IsHost top.merged h → IsPlain (end_of top.merged h) → LinkUsable (own_link top.merged h)
  host_usable h is plain = own_usable h is.0 (subst (λ b. HasLink b (end_of top.merged h)) (sym is.1) (plain_has (end_of top.merged h) plain))

  -- the link that a crossbar's instance has for a node
  pub link_usable : (k : NodeId) → IsNode top.merged k → LinkUsable (link_of top.merged k)
  link_usable k there = by (is_host top.merged k) refl where
    host : (h : IsHost top.merged k) (e : NodeEnd) → end_of top.merged k ≡ e → LinkUsable (joined_link top.merged k true e)
    host h (Face i f) e = host_usable k h (subst IsPlain (sym e) tt)
    host h (Host i f) e = host_usable k h (subst IsPlain (sym e) tt)
    host h Outside e = host_usable k h (subst IsPlain (sym e) tt)
    host h (Xbar x) e =
        let given = outer_given top.merged merged k x h e in
        let is = outer_device_is top x k.xbar given.0 given.1 in
        subst (λ o. LinkUsable (or_own (own_link top.merged k) top.merged o)) (sym given.1) (device_usable given.0 is.0)

    by : (b : Bool) → is_host top.merged k ≡ b → LinkUsable (link_of top.merged k)
    by true h = subst (λ b. LinkUsable (joined_link top.merged k b (end_of top.merged k))) (sym h) (host (there, h) (end_of top.merged k) refl)
    by false h = subst LinkUsable (sym (device_link_is top k (there, h))) (device_usable k (there, h))
