-- The large top of a number n: its files, line by line. A host `cpu` reaches n instances, of 16 types at most; they stand below
-- crossbars, 32 at each, and these below the crossbar `main`.
use Rattle.std.specs.Prelude.{ℕ, ◌+◌, ◌-◌, ◌*◌, ◌/◌, ◌%◌, min, List, [], ◌∷◌, ◌++◌, map, flat_map, codes, false}
use Rattle.std.specs.List.{range_with_len}
use Rattle.std.specs.Fmt.{decimal, digits}
use Rattle.cg_sample.specs.declared.file.SampleFile.{SampleFile}

-- ---- how much there is

-- the types of blocks beside that of `cpu`
abbrev pub type_count : ℕ → ℕ
type_count n = min n 16

-- the crossbars below `main`, of which all but the last are full
abbrev pub crossbar_count : ℕ → ℕ
crossbar_count n = (n + 31) / 32

-- the instances below crossbar c
abbrev pub instances_below : ℕ → ℕ → List ℕ
instances_below n c = range_with_len (32 * c) (min 32 (n - 32 * c))

-- ---- texts

-- a name that ends in a number, as i40
abbrev pub named : List ℕ → ℕ → List ℕ
named start k = start ++ decimal k

abbrev pub block_name : ℕ → List ℕ
block_name j = named (codes "b") j

abbrev pub crossbar_name : ℕ → List ℕ
crossbar_name c = named (codes "p") c

abbrev pub instance_name : ℕ → List ℕ
instance_name k = named (codes "i") k

-- a line with a text in its middle
abbrev pub with_inside : List ℕ → List ℕ → List ℕ → List ℕ
with_inside before inside after = before ++ (inside ++ after)

-- a file of these lines, each of which ends in a line feed
abbrev pub file_of : List ℕ → List (List ℕ) → SampleFile
file_of name lines = record { name = name; bytes = flat_map (λ line. line ++ 10 ∷ []) lines }

-- ---- blocks

abbrev pub name_line : List ℕ → List ℕ
name_line name = with_inside (codes "  name: '") name (codes "'")

abbrev pub clocking_line : List ℕ
clocking_line = codes "  clocking: [{clock: 'clk_i', reset: 'rst_ni'}]"

-- `cpu` has a host interface and no registers
unfoldable pub cpu_lines : List (List ℕ)
cpu_lines =
    codes "{"
    ∷ name_line (codes "cpu")
    ∷ clocking_line
    ∷ codes "  bus_interfaces: [{protocol: 'tlul', direction: 'host'}]"
    ∷ codes "  registers: []"
    ∷ codes "}"
    ∷ []

-- a register whose field A has the reset value j
abbrev pub ctrl_line : ℕ → List ℕ
ctrl_line j = with_inside (codes "    {name: 'CTRL', swaccess: 'rw', fields: [{bits: '7:0', name: 'A', resval: ") (decimal j) (codes "}, {bits: '8', name: 'B'}]}")

-- 8(j + 1) copies of a field
abbrev pub en_line : ℕ → List ℕ
en_line j = with_inside (codes "    {multireg: {name: 'EN', swaccess: 'rw', count: ") (decimal (8 * (j + 1))) (codes ", fields: [{bits: '0', name: 'F'}]}}")

-- a window of j + 1 words
abbrev pub mem_line : ℕ → List ℕ
mem_line j = with_inside (codes "    {window: {name: 'MEM', items: ") (decimal (j + 1)) (codes "}}")

-- block j has a device interface, an interrupt, a register, copies of another one, and a window
unfoldable pub block_lines : ℕ → List (List ℕ)
block_lines j =
    codes "{"
    ∷ name_line (block_name j)
    ∷ clocking_line
    ∷ codes "  bus_interfaces: [{protocol: 'tlul', direction: 'device'}]"
    ∷ codes "  interrupt_list: [{name: 'irq'}]"
    ∷ codes "  registers: ["
    ∷ ctrl_line j
    ∷ en_line j
    ∷ mem_line j
    ∷ codes "  ]"
    ∷ codes "}"
    ∷ []

-- a block's file has the name of the block
abbrev pub block_file : List ℕ → List (List ℕ) → SampleFile
block_file name lines = file_of (name ++ codes ".hjson") lines

-- ---- crossbars

-- a node: its name, and what it is
abbrev pub node_line : List ℕ → List ℕ → List ℕ
node_line kind name = codes "    {name: '" ++ (name ++ (codes "', type: " ++ (kind ++ codes "}")))

abbrev pub hosts_line : List ℕ → List ℕ
hosts_line host = with_inside (codes "    ") host (codes ": [")

abbrev pub target_line : List ℕ → List ℕ
target_line device = with_inside (codes "      '") device (codes "'")

-- a crossbar with one clock, which connects one host to all devices
unfoldable pub crossbar_lines : List ℕ → (host host_kind : List ℕ) → (devices : List (List ℕ)) → (device_kind : List ℕ) → List (List ℕ)
crossbar_lines name host host_kind devices device_kind =
    (codes "{"
    ∷ name_line name
    ∷ codes "  clock: 'clk_i'"
    ∷ codes "  nodes: ["
    ∷ node_line host_kind host
    ∷ map (node_line device_kind) devices)
    ++ ((codes "  ]"
    ∷ codes "  connections: {"
    ∷ hosts_line host
    ∷ map target_line devices)
    ++ (codes "    ]"
    ∷ codes "  }"
    ∷ codes "}"
    ∷ []))

-- a crossbar's file
abbrev pub crossbar_file : List ℕ → List (List ℕ) → SampleFile
crossbar_file name lines = file_of (codes "xbar_" ++ (name ++ codes ".hjson")) lines

-- `main` connects `cpu` to the other crossbars
unfoldable pub main_lines : ℕ → List (List ℕ)
main_lines n = crossbar_lines (codes "main") (codes "cpu") (codes "'host'") (map crossbar_name (range_with_len 0 (crossbar_count n))) (codes "'device', xbar: true")

-- crossbar c connects `main` to its instances
unfoldable pub below_lines : ℕ → ℕ → List (List ℕ)
below_lines n c = crossbar_lines (crossbar_name c) (codes "main") (codes "'host', xbar: true") (map instance_name (instances_below n c)) (codes "'device'")

abbrev pub main_file : ℕ → SampleFile
main_file n = crossbar_file (codes "main") (main_lines n)

abbrev pub below_file : ℕ → ℕ → SampleFile
below_file n c = crossbar_file (crossbar_name c) (below_lines n c)

-- ---- the top

-- an instance: its name, its type, where its clock and its reset come from, and what follows
abbrev pub inst_line : (name type more : List ℕ) → List ℕ
inst_line name type more =
    codes "    {name: '" ++ (name ++ (codes "', type: '" ++ (type ++ (codes "', clock_srcs: {clk_i: 'main'}, reset_connections: {rst_ni: 'sys'}" ++ (more ++ codes "}")))))

abbrev pub base_text : ℕ → List ℕ
base_text base = with_inside (codes ", base_addr: '0x") (digits 16 false base) (codes "'")

-- the instances are of all types in turn; each has 0x1000 bytes for itself, the first at 0x40000000
abbrev pub instance_line : ℕ → ℕ → List ℕ
instance_line n k = inst_line (instance_name k) (block_name (k % type_count n)) (base_text (1073741824 + 4096 * k))

abbrev pub listed_line : List ℕ → List ℕ
listed_line crossbar = with_inside (codes "    {name: '") crossbar (codes "', clock_srcs: {clk_i: 'main'}}")

-- a clock source, a reset, `cpu` and the n instances, and the crossbars
unfoldable pub top_lines : ℕ → List (List ℕ)
top_lines n =
    (codes "{"
    ∷ name_line (codes "sample")
    ∷ codes "  clocks: {srcs: [{name: 'main'}]}"
    ∷ codes "  resets: {nodes: [{name: 'sys'}]}"
    ∷ codes "  module: ["
    ∷ inst_line (codes "cpu") (codes "cpu") []
    ∷ map (instance_line n) (range_with_len 0 n))
    ++ ((codes "  ]"
    ∷ codes "  xbar: ["
    ∷ listed_line (codes "main")
    ∷ map (λ c. listed_line (crossbar_name c)) (range_with_len 0 (crossbar_count n)))
    ++ (codes "  ]"
    ∷ codes "}"
    ∷ []))

abbrev pub top_file : ℕ → SampleFile
top_file n = file_of (codes "sample.hjson") (top_lines n)

-- ---- all of it

-- the files in the order of a build: the top, its crossbars as it lists them, and its types in the order of their first use
unfoldable pub sample_files : ℕ → List SampleFile
sample_files n =
    (top_file n
    ∷ main_file n
    ∷ map (below_file n) (range_with_len 0 (crossbar_count n)))
    ++ (block_file (codes "cpu") cpu_lines
    ∷ map (λ j. block_file (block_name j) (block_lines j)) (range_with_len 0 (type_count n)))
