-- The characters of the names in a merged top, and what its blocks have.
use Rattle.std.proofs.Common.{List, Some, [], ap, arith, codes, get_or, inl, inr, length, refl, slice_get, subst, suc, sym, true, zero, ℕ, ◌++◌, ◌+◌, ◌<◌, ◌∙◌, ◌∷◌, ◌≡◌, ◌≤◌}
use Rattle.std.proofs.lemmas.Option.{slice_get_within}
use Rattle.std.specs.List.{list_all}
use Rattle.cg_busspec.proofs.Good.{is_node_character}
use Rattle.cg_busspec.proofs.WellLinks.{spelled_each}
use Rattle.cg_desc.proofs.Numbered.{item_among}
use Rattle.cg_desc.specs.Crossbar.{IsNodeName, IsShortName, IsValidCrossbar}
use Rattle.cg_desc.specs.Merged.{BlockAt, IsMerged, IsValidLaidBlock}
use Rattle.cg_desc.specs.Top.{IsValidInstance}
use Rattle.cg_desc.specs.Valid.{AreValidPins, IsValidAlert, IsValidInterrupt, IsValidPin}
use Rattle.cg_desc.specs.declared.block.AlertDesc.{AlertDesc}
use Rattle.cg_desc.specs.declared.block.IntrDesc.{IntrDesc}
use Rattle.cg_desc.specs.declared.block.IoDesc.{IoDesc}
use Rattle.cg_desc.specs.declared.block.IoDir.{IoDir}
use Rattle.cg_desc.specs.declared.block.IoDir.TheVariants.{In, InOut, Out}
use Rattle.cg_desc.specs.declared.block.LaidBlock.{LaidBlock}
use Rattle.cg_desc.specs.declared.top.MergedTop.{MergedTop}
use Rattle.cg_space.proofs.Tabling.{all_at}
use Rattle.cg_svspec.proofs.Parts.{all_join}
use Rattle.cg_svspec.proofs.Runs.{each_passes}
use Rattle.cg_svspec.proofs.WellNames.{each_join, each_weaker, has_underscore, underscore_back, word_characters, word_is_name, word_join}
use Rattle.cg_svspec.specs.Characters.{Each, IsName, IsWord, is_name_character}
use Rattle.cg_svspec.specs.Links.{spelled}
use Rattle.cg_svspec.specs.Names.{Among}
use Rattle.cg_svspec.specs.Printable.{AllOf}
use Rattle.cg_topspec.proofs.Behind.{block_among}
use Rattle.cg_topspec.proofs.Built.{IsNode}
use Rattle.cg_topspec.proofs.EachItem.{each_item}
use Rattle.cg_topspec.proofs.Nets.{from_those}
use Rattle.cg_topspec.proofs.Relations.{get_or_is, item_of, node_fact}
use Rattle.cg_topspec.specs.Nets.{Pin, gives_out, input_pins, numbered, output_pins, takes_in}
use Rattle.cg_topspec.specs.Top.{NodeId, block_of, crossbar_of, instance_of, no_block, no_crossbar, no_instance, node_of}

pub short_each : (n : List ℕ) → IsShortName n → Each is_name_character n
short_each n s = word_characters n s.0.0

-- ---- texts that are put together

pub underscored : (n : List ℕ) → Each is_name_character n → Each is_name_character (codes "_" ++ n)
underscored n e = each_join is_name_character (codes "_") n (each_passes is_name_character (codes "_") refl) e

pub both_each : (a b : List ℕ) → Each is_name_character a → Each is_name_character b → Each is_name_character (a ++ b)
both_each a b e f = each_join is_name_character a b e f

-- a word with an end that is written out, which has an underscore
pub suffix_name : (a b : List ℕ) → IsWord a → has_underscore b ≡ true → list_all is_name_character b ≡ true → IsName (a ++ b)
suffix_name a b w h e = word_is_name (a ++ b) (word_join a b w (each_passes is_name_character b e)) (underscore_back a b h)

-- ---- nodes

plain_character : (c : ℕ) → is_name_character c ≡ true → is_node_character c ≡ true
plain_character c e = rw e refl

node_name_each : (n : List ℕ) → IsNodeName n → Each is_node_character n
node_name_each n (inl s) = each_weaker is_name_character is_node_character plain_character n (short_each n s)
node_name_each n (inr s) =
    subst (Each is_node_character) (sym s.4)
    (each_join is_node_character s.0 (46 ∷ s.1) (each_weaker is_name_character is_node_character plain_character s.0 (short_each s.0 s.2))
    (refl, each_weaker is_name_character is_node_character plain_character s.1 (short_each s.1 s.3)))

-- ---- what stands in a merged top

module _ (m : MergedTop) (merged : IsMerged m) where
  pub valid_crossbar : (x : ℕ) → x < length m.xbars → IsValidCrossbar (crossbar_of m x)
  valid_crossbar x less = all_at IsValidCrossbar m.xbars x (crossbar_of m x) merged.crossbars (item_of m.xbars x no_crossbar less)

  pub valid_block : (i : ℕ) → i < length m.top.insts → IsValidLaidBlock (block_of m i)
  valid_block i less = let at = block_among m merged i less in all_at IsValidLaidBlock m.blocks at.0 (block_of m i) merged.blocks at.2

  pub instance_each : (i : ℕ) → i < length m.top.insts → Each is_name_character (instance_of m i).name
  instance_each i less =
      let valid : IsValidInstance (instance_of m i) = all_at IsValidInstance m.top.insts i (instance_of m i) merged.top.instances
      (item_of m.top.insts i no_instance less) in
      short_each (instance_of m i).name valid.name

  pub crossbar_each : (x : ℕ) → x < length m.xbars → Each is_name_character (crossbar_of m x).name
  crossbar_each x less = short_each (crossbar_of m x).name (valid_crossbar x less).name

  pub node_each : (n : NodeId) → IsNode m n → Each is_name_character (spelled (node_of m n).name)
  node_each n there =
      let at = node_fact m n there in
      let valid : IsValidCrossbar at.crossbar = all_at IsValidCrossbar m.xbars n.xbar at.crossbar merged.crossbars at.crossbar_is in
      spelled_each (node_of m n).name (node_name_each (node_of m n).name
      (valid.nodes (node_of m n) (item_among at.crossbar.nodes n.node (node_of m n) at.is)).name)

  -- a block that an instance has is the block of its number
  pub block_known : (i : ℕ) (block : LaidBlock) → BlockAt m i block → (i < length m.top.insts) × (block_of m i ≡ block)
  block_known i block at = (
    omega (arith, slice_get_within m.kinds i at.0 at.1, merged.kinds.count),
    ap (λ k. get_or m.blocks k no_block) (get_or_is m.kinds i (length m.blocks) at.0 at.1) ∙ get_or_is m.blocks at.0 no_block block at.2,
  )

-- ---- ports that go to pins

-- what each port has, of whichever direction
pub record IsPin (p : IoDesc) : Type 0 where
  pub name : IsShortName p.name
  pub some_bit : 0 < p.width
  pub few_bits : p.width ≤ 64

pub pins_are_valid : (pins : List IoDesc) → AreValidPins pins → AllOf IsPin pins
pins_are_valid pins valid =
    subst (AllOf IsPin) (sym valid.stand)
    (all_join IsPin valid.inputs (valid.outputs ++ valid.inouts) (weaker In valid.inputs valid.valid_inputs)
    (all_join IsPin valid.outputs valid.inouts (weaker Out valid.outputs valid.valid_outputs) (weaker InOut valid.inouts valid.valid_inouts))) where
      weaker : (dir : IoDir) (ps : List IoDesc) → AllOf (IsValidPin dir) ps → AllOf IsPin ps
      weaker dir [] all = tt
      weaker dir (p ∷ ps) all = (record { name = all.0.name; some_bit = all.0.some_bit; few_bits = all.0.few_bits }, weaker dir ps all.1)

-- a numbered port is one of the list
pub numbered_port : (k : ℕ) (ios : List IoDesc) (p : Pin) → Among p (numbered k ios) → Among p.port ios
numbered_port k [] p a = absurd a
numbered_port k (io ∷ ios) p (inl e) = inl (ap (λ (q : Pin). q.port) e)
numbered_port k (io ∷ ios) p (inr a) = inr (numbered_port (suc k) ios p a)

-- and one of the list is numbered
port_numbered : (k : ℕ) (ios : List IoDesc) (i : ℕ) (io : IoDesc) → slice_get ios i ≡ Some io → Among (record { number = k + i; port = io }) (numbered k ios)
port_numbered k [] i io e = absurd cc
port_numbered k (p ∷ ios) zero io e = let same : io ≡ p = cc in inl (pin_same (k + 0) k io p (omega arith) same) where
  pin_same : (a b : ℕ) (p q : IoDesc) → a ≡ b → p ≡ q → ◌≡◌ {A = Pin} (record { number = a; port = p }) (record { number = b; port = q })
  pin_same a b p q e f = rw (e, f) refl
port_numbered k (p ∷ ios) (suc i) io e =
    inr (subst (λ n. Among (record { number = n; port = io }) (numbered (suc k) ios)) (step k i) (port_numbered (suc k) ios i io e)) where
      step : (k i : ℕ) → suc k + i ≡ k + suc i
      step k i = omega arith

pub port_among : (ios : List IoDesc) (i : ℕ) (io : IoDesc) → slice_get ios i ≡ Some io → Among (record { number = i; port = io }) (numbered 0 ios)
port_among ios i io e = subst (λ n. Among (record { number = n; port = io }) (numbered 0 ios)) (start i) (port_numbered 0 ios i io e) where
  start : (i : ℕ) → 0 + i ≡ i
  start i = omega arith

module _ (m : MergedTop) (merged : IsMerged m) (i : ℕ) (less : i < length m.top.insts) where
  pub interrupt_valid : (x : IntrDesc) → Among x (block_of m i).desc.intrs → IsValidInterrupt x
  interrupt_valid x a = each_item IsValidInterrupt (block_of m i).desc.intrs (valid_block m merged i less).block.interrupts x a

  pub alert_valid : (x : AlertDesc) → Among x (block_of m i).desc.alerts → IsValidAlert x
  alert_valid x a = each_item IsValidAlert (block_of m i).desc.alerts (valid_block m merged i less).block.alerts x a

  pub input_valid : (p : Pin) → Among p (input_pins (block_of m i)) → IsPin p.port
  input_valid p a =
      each_item IsPin (block_of m i).desc.ios (pins_are_valid (block_of m i).desc.ios (valid_block m merged i less).block.pins) p.port
      (numbered_port 0 (block_of m i).desc.ios p (from_those (λ (p : Pin). takes_in p.port.dir) (numbered 0 (block_of m i).desc.ios) p a).0)

  pub output_valid : (p : Pin) → Among p (output_pins (block_of m i)) → IsPin p.port
  output_valid p a =
      each_item IsPin (block_of m i).desc.ios (pins_are_valid (block_of m i).desc.ios (valid_block m merged i less).block.pins) p.port
      (numbered_port 0 (block_of m i).desc.ios p (from_those (λ (p : Pin). gives_out p.port.dir) (numbered 0 (block_of m i).desc.ios) p a).0)
