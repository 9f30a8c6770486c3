-- The rules, each as the finding that breaks it: its phase, its number, its place and its name. A file is judged phase by
-- phase, and a rule on values is read where no rule of an earlier phase is broken.
use Rattle.std.specs.Prelude.{ℕ, List, []}
use Rattle.cg_desc.specs.declared.place.At.{At}
use Rattle.cg_finding.specs.Finding.{Finding, finding}

-- the first character of a file
abbrev pub file_start : At
file_start = record { byte = 0; line = 1; column = 1 }

-- ---- phase 0: the file

-- 10: there is no such file
abbrev pub file_absent : Finding
file_absent = finding 0 10 file_start []

-- 11: the file, or the files up to it together, are too large
abbrev pub file_too_large : Finding
file_too_large = finding 0 11 file_start []

-- 12: the file is not UTF-8; at the first byte that is wrong
abbrev pub not_utf8 : At → Finding
not_utf8 at = finding 0 12 at []

-- ---- phase 1: the document

-- 15: the text is no document
abbrev pub not_a_document : At → Finding
not_a_document at = finding 1 15 at []

-- 16: an object or a list stands too deep; at its opener
abbrev pub too_deep : At → Finding
too_deep at = finding 1 16 at []

-- ---- phase 2: keys, kinds and the profile

-- 20: an object has a key twice; at the later key
abbrev pub duplicate_key : At → List ℕ → Finding
duplicate_key at key = finding 2 20 at key

-- 21: a needed key is absent; at the object's opener
abbrev pub missing_key : At → List ℕ → Finding
missing_key at key = finding 2 21 at key

-- 22: a value of a wrong kind or choice, or a list of a wrong length; at the value
abbrev pub wrong_kind : At → List ℕ → Finding
wrong_kind at key = finding 2 22 at key

-- 24: a value that is to be a number is none, or out of its range; at the value
abbrev pub not_a_number : At → List ℕ → Finding
not_a_number at key = finding 2 24 at key

-- 25: a value that is to be a name is none; at the value
abbrev pub bad_name : At → List ℕ → Finding
bad_name at key = finding 2 25 at key

-- 26: what is asked for is outside the profile; at the value
abbrev pub outside_the_profile : At → List ℕ → Finding
outside_the_profile at key = finding 2 26 at key

-- ---- phase 3: bits, reset values and counts of a block

-- 30: `bits` is neither a number up to 31 nor two of them; at the value, with the register's name
abbrev pub bad_bits : At → List ℕ → Finding
bad_bits at register = finding 3 30 at register

-- 31: a field shares a bit with an earlier one; at its `bits`, with its name
abbrev pub fields_overlap : At → List ℕ → Finding
fields_overlap at field = finding 3 31 at field

-- 32: a reset value does not fit; at the value, with the register's name
abbrev pub reset_too_wide : At → List ℕ → Finding
reset_too_wide at register = finding 3 32 at register

-- 33: a register has no field; at its `fields`, with its name
abbrev pub no_fields : At → List ℕ → Finding
no_fields at register = finding 3 33 at register

-- 37: the number of copies is none or out of its range; at `count`, with the register's name
abbrev pub bad_count : At → List ℕ → Finding
bad_count at register = finding 3 37 at register

-- 40: the number of a window's words is none or out of its range; at `items`, with the window's name
abbrev pub bad_window : At → List ℕ → Finding
bad_window at window = finding 3 40 at window

-- ---- phase 4: the items of a block

-- 34: a register, a window or a field has the name of an earlier one
abbrev pub name_twice : At → List ℕ → Finding
name_twice at name = finding 4 34 at name

-- 38: a block has too many registers and windows, or fields; at its `registers`
abbrev pub too_many : At → Finding
too_many at = finding 4 38 at []

-- 42: interrupts have too many bits, or there are too many alerts; at their list
abbrev pub too_many_interrupt_bits : At → Finding
too_many_interrupt_bits at = finding 4 42 at []

-- ---- phase 5: offsets and gates of a block

-- 33: an interface has no register and no window; at its list, with its name
abbrev pub no_items : At → List ℕ → Finding
no_items at face = finding 5 33 at face

-- 35: `regwen` names no register of the interface; at the value, with the name that is looked for
abbrev pub unknown_gate : At → List ℕ → Finding
unknown_gate at gate = finding 5 35 at gate

-- 36: the register that `regwen` names cannot be a gate; at the value, with the name that is looked for
abbrev pub bad_gate : At → List ℕ → Finding
bad_gate at gate = finding 5 36 at gate

-- 39: `skipto` is no multiple of 4, or below the next offset; at the value
abbrev pub skip_back : At → Finding
skip_back at = finding 5 39 at []

-- 41: an item is the first of its interface that ends above the limit
abbrev pub past_the_end : At → List ℕ → Finding
past_the_end at item = finding 5 41 at item

-- ---- phase 6: the nodes and connections of a crossbar

-- 50: a node has an earlier node's name, or a connection names a device twice; at the later one
abbrev pub node_twice : At → List ℕ → Finding
node_twice at node = finding 6 50 at node

-- 51: a connection's key is no host, or its element is no device
abbrev pub unknown_node : At → List ℕ → Finding
unknown_node at text = finding 6 51 at text

-- 52: a host has no connection, or one to no device; at its name
abbrev pub host_without_device : At → List ℕ → Finding
host_without_device at node = finding 6 52 at node

-- 53: no host connects to a device; at its name
abbrev pub device_without_host : At → List ℕ → Finding
device_without_host at node = finding 6 53 at node

-- ---- phase 7: the nodes, instances and spaces of a top

-- 50: two nodes of a top have one spelling, or name one interface; at the later one's name
abbrev pub node_twice_in_top : At → List ℕ → Finding
node_twice_in_top at node = finding 7 50 at node

-- 51: a node of a top names no interface, is not outside, and has no partner; at its name
abbrev pub unknown_node_in_top : At → List ℕ → Finding
unknown_node_in_top at node = finding 7 51 at node

-- 57: an address space stands twice or is not listed, or a nested crossbar is in another space
abbrev pub bad_space : At → List ℕ → Finding
bad_space at name = finding 7 57 at name

-- 60: an instance or a crossbar has the name of an earlier one; at its name
abbrev pub instance_twice : At → List ℕ → Finding
instance_twice at name = finding 7 60 at name

-- 62: a device interface of an instance has no base; at the instance's name
abbrev pub base_missing : At → List ℕ → Finding
base_missing at name = finding 7 62 at name

-- ---- phase 8: the ranges of crossbars

-- 54: a device has no range, or one of a wrong shape; at its name
abbrev pub bad_range : At → List ℕ → Finding
bad_range at node = finding 8 54 at node

-- 55: a device has a range that shares an address with another; at its name
abbrev pub ranges_overlap : At → List ℕ → Finding
ranges_overlap at node = finding 8 55 at node

-- 56: a nested crossbar leads back to its own; at the node's name
abbrev pub crossbars_in_a_circle : At → List ℕ → Finding
crossbars_in_a_circle at node = finding 8 56 at node

-- ---- phases 9 to 12: numbers, ties, pins and texts

-- 66: there are too many interrupts or alerts with this instance; at its name
abbrev pub too_many_sources : At → List ℕ → Finding
too_many_sources at name = finding 9 66 at name

-- 63: a clock port has no source, or an unknown one; at its owner's name, with the port
abbrev pub bad_clock : At → List ℕ → Finding
bad_clock at port = finding 10 63 at port

-- 64: a reset port has no source, or an unknown one; at its instance's name, with the port
abbrev pub bad_reset : At → List ℕ → Finding
bad_reset at port = finding 10 64 at port

-- 65: a signal names nothing that is there, or asks for what it cannot have; at its opener, with its instance
abbrev pub bad_pin : At → List ℕ → Finding
bad_pin at name = finding 11 65 at name

-- 70: a list of generated names has a repeat; at the opener of the file's object, with the first repeat
abbrev pub names_clash : At → List ℕ → Finding
names_clash at name = finding 12 70 at name
