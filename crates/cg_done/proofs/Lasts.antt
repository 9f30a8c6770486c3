-- What completing puts at each key of an instance and of a top.
use Rattle.std.proofs.Common.{◌≡◌, ℕ, List, ◌++◌, Option, Some, None, option_map, cond, bytes_eq, codes, ap, ◌∙◌}
use Rattle.serde_json.specs.Data.{Data}
use Rattle.cg_hjson.specs.declared.tree.Member.{Member}
use Rattle.cg_hjson.specs.declared.tree.Tree.{Tree}
use Rattle.cg_keys.specs.Forms.{or_else}
use Rattle.cg_keys.specs.Table.{value_at}
use Rattle.cg_blkdone.specs.Full.{list_pair, pair_if}
use Rattle.cg_blkdone.proofs.Puts.{last_at, last_in_both, last_in_pair_if, or_else_none}
use Rattle.cg_done.specs.FullTop.{full_base, full_bases, full_clocks, full_instance, full_pinmux, full_pinout, full_use, instance_pairs, no_ports, one_space, top_pairs, value_or}

-- ---- pairs that may be missing

-- the last value at a key of two pairs that may be missing
last_of_two : (k a b : List ℕ) (x y : Option Data) → last_at k (pair_if a x ++ pair_if b y) ≡ or_else (cond (bytes_eq k b) y None) (cond (bytes_eq k a) x None)
last_of_two k a b x y = last_in_both k (pair_if a x) (pair_if b y) ∙ (λ i. or_else (last_in_pair_if k b y i) (last_in_pair_if k a x i))

-- ---- instances

-- what completing an instance puts at a key
abbrev pub instance_at : List ℕ → List Member → Option Data
instance_at k ms =
    or_else (or_else
    (or_else (cond (bytes_eq k (codes "base_addrs")) (option_map full_bases (value_at (codes "base_addrs") ms)) None)
    (cond (bytes_eq k (codes "base_addr")) (option_map full_base (value_at (codes "base_addr") ms)) None))
    (cond (bytes_eq k (codes "reset_connections")) (Some (value_or no_ports (value_at (codes "reset_connections") ms))) None))
    (cond (bytes_eq k (codes "clock_srcs")) (Some (value_or no_ports (value_at (codes "clock_srcs") ms))) None)

-- at any key
pub last_in_instance : (k : List ℕ) (ms : List Member) → last_at k (instance_pairs ms) ≡ instance_at k ms
unfolding instance_pairs
last_in_instance k ms =
    ap (λ o. or_else (or_else o (cond (bytes_eq k (codes "reset_connections")) (Some (value_or no_ports (value_at (codes "reset_connections") ms))) None))
    (cond (bytes_eq k (codes "clock_srcs")) (Some (value_or no_ports (value_at (codes "clock_srcs") ms))) None))
    (last_of_two k (codes "base_addr") (codes "base_addrs") (option_map full_base (value_at (codes "base_addr") ms)) (option_map full_bases (value_at (codes "base_addrs") ms)))

-- its base address
pub last_base : (ms : List Member) → last_at (codes "base_addr") (instance_pairs ms) ≡ option_map full_base (value_at (codes "base_addr") ms)
last_base ms = last_in_instance (codes "base_addr") ms ∙ or_else_none _ ∙ or_else_none _

-- those of its interfaces
pub last_bases : (ms : List Member) → last_at (codes "base_addrs") (instance_pairs ms) ≡ option_map full_bases (value_at (codes "base_addrs") ms)
last_bases ms = last_in_instance (codes "base_addrs") ms ∙ or_else_none _ ∙ or_else_none _ ∙ or_else_none _

-- ---- the top

abbrev section_at : List ℕ → List ℕ → (Tree → Data) → List Member → Option Data
section_at k key full ms = cond (bytes_eq k key) (option_map full (value_at key ms)) None

-- what completing a top puts at a key
abbrev pub top_at : List ℕ → List Member → Option Data
top_at k ms =
    or_else (or_else (or_else
    (or_else (or_else (section_at k (codes "pinmux") full_pinmux ms) (section_at k (codes "pinout") full_pinout ms)) (section_at k (codes "clocks") full_clocks ms))
    (cond (bytes_eq k (codes "xbar")) (Some (list_pair (codes "xbar") full_use ms).value) None))
    (cond (bytes_eq k (codes "module")) (Some (list_pair (codes "module") full_instance ms).value) None))
    (cond (bytes_eq k (codes "addr_spaces")) (Some (value_or one_space (value_at (codes "addr_spaces") ms))) None)

last_in_sections : (k : List ℕ) (ms : List Member) → last_at k
    (pair_if (codes "clocks") (option_map full_clocks (value_at (codes "clocks") ms))
    ++ (pair_if (codes "pinout") (option_map full_pinout (value_at (codes "pinout") ms)) ++ pair_if (codes "pinmux") (option_map full_pinmux (value_at (codes "pinmux") ms))))
    ≡ or_else (or_else (section_at k (codes "pinmux") full_pinmux ms) (section_at k (codes "pinout") full_pinout ms)) (section_at k (codes "clocks") full_clocks ms)
last_in_sections k ms =
    last_in_both k (pair_if (codes "clocks") (option_map full_clocks (value_at (codes "clocks") ms))) _
    ∙ (λ i. or_else (last_of_two k (codes "pinout") (codes "pinmux") (option_map full_pinout (value_at (codes "pinout") ms)) (option_map full_pinmux (value_at (codes "pinmux") ms)) i)
    (last_in_pair_if k (codes "clocks") (option_map full_clocks (value_at (codes "clocks") ms)) i))

-- at any key
pub last_in_top : (k : List ℕ) (ms : List Member) → last_at k (top_pairs ms) ≡ top_at k ms
unfolding top_pairs
last_in_top k ms = ap (λ o. or_else (or_else (or_else o
    (cond (bytes_eq k (codes "xbar")) (Some (list_pair (codes "xbar") full_use ms).value) None))
    (cond (bytes_eq k (codes "module")) (Some (list_pair (codes "module") full_instance ms).value) None))
    (cond (bytes_eq k (codes "addr_spaces")) (Some (value_or one_space (value_at (codes "addr_spaces") ms))) None)) (last_in_sections k ms)

-- its clocks
pub last_clocks : (ms : List Member) → last_at (codes "clocks") (top_pairs ms) ≡ option_map full_clocks (value_at (codes "clocks") ms)
last_clocks ms = last_in_top (codes "clocks") ms ∙ or_else_none _ ∙ or_else_none _ ∙ or_else_none _

-- its pads
pub last_pinout : (ms : List Member) → last_at (codes "pinout") (top_pairs ms) ≡ option_map full_pinout (value_at (codes "pinout") ms)
last_pinout ms = last_in_top (codes "pinout") ms ∙ or_else_none _ ∙ or_else_none _ ∙ or_else_none _ ∙ or_else_none _

-- its signals
pub last_pinmux : (ms : List Member) → last_at (codes "pinmux") (top_pairs ms) ≡ option_map full_pinmux (value_at (codes "pinmux") ms)
last_pinmux ms = last_in_top (codes "pinmux") ms ∙ or_else_none _ ∙ or_else_none _ ∙ or_else_none _ ∙ or_else_none _ ∙ or_else_none _
