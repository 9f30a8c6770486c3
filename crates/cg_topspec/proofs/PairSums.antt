-- What hosts that stand for a crossbar have from the devices there, summed node by node.
use Rattle.std.proofs.Common.{Bool, ap, false, not, refl, sym, true, ℕ, ◌&&◌, ◌∙◌, ◌≡◌}
use Rattle.std.proofs.lemmas.Bool.{eq-eqb}
use Rattle.cg_desc.specs.Merged.{IsMerged}
use Rattle.cg_desc.specs.declared.top.MergedTop.{MergedTop}
use Rattle.cg_desc.specs.declared.top.NodeEnd.{NodeEnd}
use Rattle.cg_desc.specs.declared.top.NodeEnd.TheVariants.{Face, Host, Outside, Xbar}
use Rattle.cg_topspec.proofs.Built.{Built, IsNode}
use Rattle.cg_topspec.proofs.Merges.{one_joined, outer_given}
use Rattle.cg_topspec.proofs.NodeEnds.{all_once, partner_of}
use Rattle.cg_topspec.proofs.NodeSums.{is_any_crossbar}
use Rattle.cg_topspec.proofs.Nodes.{and_both, is_crossbar_gives}
use Rattle.cg_topspec.proofs.TopConnections.{outer_device_is}
use Rattle.cg_topspec.proofs.Totals.{count_if, if_any, total, total_none, total_only, total_same, total_swap}
use Rattle.cg_topspec.specs.Top.{NodeId, all_nodes, end_of, is_crossbar, is_host, outer_device}

-- host k and device d join each other's crossbars
abbrev pub are_joined : MergedTop → NodeId → NodeId → Bool
are_joined m k d = (is_host m k && is_crossbar d.xbar (end_of m k)) && (not (is_host m d) && is_crossbar k.xbar (end_of m d))

module _ (top : Built) (merged : IsMerged top.merged) (g : NodeId → ℕ) where
  m : MergedTop
  m = top.merged

  -- what a host that stands for a crossbar has from the device there
  abbrev pub from_outer : NodeId → NodeEnd → ℕ
  from_outer k (Xbar x) = if_any g (outer_device top.merged x k.xbar)
  from_outer k _ = 0

  no_pair_host : (k d : NodeId) (e : NodeEnd) → is_any_crossbar e ≡ false → end_of top.merged k ≡ e → are_joined top.merged k d ≡ false
  no_pair_host k d e other is = rw is (by e other (is_host top.merged k) (not (is_host top.merged d) && is_crossbar k.xbar (end_of top.merged d))) where
    by : (e : NodeEnd) → is_any_crossbar e ≡ false → (b c : Bool) → ((b && is_crossbar d.xbar e) && c) ≡ false
    by (Xbar x) o b c = cc
    by (Face i f) o true c = refl
    by (Face i f) o false c = refl
    by (Host i f) o true c = refl
    by (Host i f) o false c = refl
    by Outside o true c = refl
    by Outside o false c = refl

  no_pair_device : (k d : NodeId) (e : NodeEnd) → is_any_crossbar e ≡ false → end_of top.merged d ≡ e → are_joined top.merged k d ≡ false
  no_pair_device k d e other is = rw is (by e other (is_host top.merged k && is_crossbar d.xbar (end_of top.merged k)) (not (is_host top.merged d))) where
    by : (e : NodeEnd) → is_any_crossbar e ≡ false → (b c : Bool) → (b && (c && is_crossbar k.xbar e)) ≡ false
    by (Xbar x) o b c = cc
    by (Face i f) o true true = refl
    by (Face i f) o true false = refl
    by (Face i f) o false c = refl
    by (Host i f) o true true = refl
    by (Host i f) o true false = refl
    by (Host i f) o false c = refl
    by Outside o true true = refl
    by Outside o true false = refl
    by Outside o false c = refl

  -- what the test says
  pub record Pair (k d : NodeId) : Type 0 where
    pub host : is_host top.merged k ≡ true
    pub device : is_host top.merged d ≡ false
    pub outer : end_of top.merged k ≡ Xbar d.xbar
    pub inner : end_of top.merged d ≡ Xbar k.xbar

  pair_is : (k d : NodeId) → are_joined top.merged k d ≡ true → Pair k d
  pair_is k d e =
      let both = and_both _ _ e in
      let left = and_both _ _ both.0 in
      let right = and_both _ _ both.1 in
      record {
        host = left.0;
        device = not_true (is_host top.merged d) right.0;
        outer = is_crossbar_gives d.xbar (end_of top.merged k) left.1;
        inner = is_crossbar_gives k.xbar (end_of top.merged d) right.1;
      }
    where
      not_true : (b : Bool) → not b ≡ true → b ≡ false
      not_true true h = cc
      not_true false h = refl

  is_pair : (k d : NodeId) → Pair k d → are_joined top.merged k d ≡ true
  is_pair k d p = rw (p.host, p.device, p.outer, p.inner, eq-eqb d.xbar d.xbar refl, eq-eqb k.xbar k.xbar refl) refl

  -- two numbers of a crossbar
  xbar_same : (x y : ℕ) → Xbar x ≡ Xbar y → x ≡ y
  xbar_same x y e = cc

  one_device_of : (k a b : NodeId) → IsNode top.merged a → IsNode top.merged b → Pair k a → Pair k b → a ≡ b
  one_device_of k a b there_a there_b p q =
      one_joined top.merged merged a b k.xbar there_a there_b (xbar_same a.xbar b.xbar (sym p.outer ∙ q.outer)) p.inner q.inner

  one_host_of : (d a b : NodeId) → IsNode top.merged a → IsNode top.merged b → Pair a d → Pair b d → a ≡ b
  one_host_of d a b there_a there_b p q =
      one_joined top.merged merged a b d.xbar there_a there_b (xbar_same a.xbar b.xbar (sym p.inner ∙ q.inner)) p.outer q.outer

  -- the devices that a host joins
  devices_of_host : (k : NodeId) → IsNode top.merged k
      → total (λ d. count_if (are_joined top.merged k d) (g d)) (all_nodes top.merged) ≡ count_if (is_host top.merged k) (from_outer k (end_of top.merged k))
  devices_of_host k there = by (is_host top.merged k) refl (end_of top.merged k) refl where
    no_pairs : ((d : NodeId) → are_joined top.merged k d ≡ false) → total (λ d. count_if (are_joined top.merged k d) (g d)) (all_nodes top.merged) ≡ 0
    no_pairs h = total_none (are_joined top.merged k) g (all_nodes top.merged) (λ d a. h d)

    nested : (x : ℕ) → is_host top.merged k ≡ true → end_of top.merged k ≡ Xbar x
        → total (λ d. count_if (are_joined top.merged k d) (g d)) (all_nodes top.merged) ≡ if_any g (outer_device top.merged x k.xbar)
    nested x h e =
        let given = outer_given top.merged merged k x (there, h) e in
        let is = outer_device_is top x k.xbar given.0 given.1 in
        let pair : Pair k given.0 = record { host = h; device = is.0.1; outer = e ∙ ap Xbar (sym is.1); inner = is.2 } in
        total_only (are_joined top.merged k) g (all_nodes top.merged) given.0 (all_once top.merged) is.0.0 (is_pair k given.0 pair)
        (λ d a t. one_device_of k d given.0 a is.0.0 (pair_is k d t) pair)
        ∙ sym (ap (if_any g) given.1)

    by : (b : Bool) → is_host top.merged k ≡ b → (e : NodeEnd) → end_of top.merged k ≡ e
        → total (λ d. count_if (are_joined top.merged k d) (g d)) (all_nodes top.merged) ≡ count_if b (from_outer k e)
    by true h (Xbar x) e = nested x h e
    by true h (Face i f) e = no_pairs (λ d. no_pair_host k d (Face i f) refl e)
    by true h (Host i f) e = no_pairs (λ d. no_pair_host k d (Host i f) refl e)
    by true h Outside e = no_pairs (λ d. no_pair_host k d Outside refl e)
    by false h e' e = no_pairs (λ d. rw h refl)

  -- the hosts that a device joins
  hosts_of_device : (d : NodeId) → IsNode top.merged d
      → total (λ k. count_if (are_joined top.merged k d) (g d)) (all_nodes top.merged)
      ≡ count_if (not (is_host top.merged d) && is_any_crossbar (end_of top.merged d)) (g d)
  hosts_of_device d there = by (is_host top.merged d) refl (end_of top.merged d) refl where
    no_pairs : ((k : NodeId) → are_joined top.merged k d ≡ false) → total (λ k. count_if (are_joined top.merged k d) (g d)) (all_nodes top.merged) ≡ 0
    no_pairs h = total_none (λ k. are_joined top.merged k d) (λ k. g d) (all_nodes top.merged) (λ k a. h k)

    nested : (y : ℕ) → is_host top.merged d ≡ false → end_of top.merged d ≡ Xbar y
        → total (λ k. count_if (are_joined top.merged k d) (g d)) (all_nodes top.merged) ≡ g d
    nested y h e =
        let is = partner_of top.merged merged d y (there, h) e in
        let pair : Pair is.0 d = record { host = is.1.1; device = h; outer = is.3; inner = e ∙ ap Xbar (sym is.2) } in
        total_only (λ k. are_joined top.merged k d) (λ k. g d) (all_nodes top.merged) is.0 (all_once top.merged) is.1.0 (is_pair is.0 d pair)
        (λ k a t. one_host_of d k is.0 a is.1.0 (pair_is k d t) pair)

    second : (a b : Bool) → b ≡ false → (a && b) ≡ false
    second true b e = e
    second false b e = refl

    by : (b : Bool) → is_host top.merged d ≡ b → (e : NodeEnd) → end_of top.merged d ≡ e
        → total (λ k. count_if (are_joined top.merged k d) (g d)) (all_nodes top.merged) ≡ count_if (not b && is_any_crossbar e) (g d)
    by false h (Xbar y) e = nested y h e
    by false h (Face i f) e = no_pairs (λ k. no_pair_device k d (Face i f) refl e)
    by false h (Host i f) e = no_pairs (λ k. no_pair_device k d (Host i f) refl e)
    by false h Outside e = no_pairs (λ k. no_pair_device k d Outside refl e)
    by true h e' e = no_pairs (λ k. rw h (second (is_host top.merged k && is_crossbar d.xbar (end_of top.merged k)) false refl))

  -- What hosts have from the devices that they join, those devices have.
  pub pairs_by_nodes : total (λ k. count_if (is_host top.merged k) (from_outer k (end_of top.merged k))) (all_nodes top.merged)
      ≡ total (λ d. count_if (not (is_host top.merged d) && is_any_crossbar (end_of top.merged d)) (g d)) (all_nodes top.merged)
  pairs_by_nodes =
      total_same (λ k. count_if (is_host top.merged k) (from_outer k (end_of top.merged k)))
      (λ k. total (λ d. count_if (are_joined top.merged k d) (g d)) (all_nodes top.merged)) (all_nodes top.merged)
      (λ k a. sym (devices_of_host k a))
      ∙ (total_swap (λ k d. count_if (are_joined top.merged k d) (g d)) (all_nodes top.merged) (all_nodes top.merged)
      ∙ total_same (λ d. total (λ k. count_if (are_joined top.merged k d) (g d)) (all_nodes top.merged))
      (λ d. count_if (not (is_host top.merged d) && is_any_crossbar (end_of top.merged d)) (g d)) (all_nodes top.merged)
      (λ d a. hosts_of_device d a))
