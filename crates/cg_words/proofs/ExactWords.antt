-- What is found value by value is exactly the command that the words are.
use Rattle.std.proofs.Common.{◌≡◌, ℕ, ◌≤◌, ◌-◌, ◌^◌, Bool, true, false, ◌&&◌, List, [], ◌∷◌, Option, Some, None, Result, Ok, Err, option_and_then, option_map, if◌then◌else◌, nat_le, codes, refl, sym, ap, subst, ◌∙◌}
use Rattle.std.specs.Option.{option_map_or}
use Rattle.std.specs.Str.{bytes_eq}
use Rattle.std.proofs.lemmas.Bool.{leb-true, le-leb, and_parts, false≢true}
use Rattle.std.proofs.lemmas.Option.{none-some, same_Some}
use Rattle.std.proofs.lemmas.Slice.Eq.{bytes_eq-Decides}
use Rattle.clap.specs.Walk.{Row, Text, first_of}
use Rattle.clap.specs.Simple.{App, matches_of}
use Rattle.cg_base.specs.Number.Scan.{number_of}
use Rattle.cg_base.proofs.Numbers.{number_of-IsNumber, IsNumber-number_of}
use Rattle.cg_words.specs.Tools.{accepts, build_app, probe_app, regtool_app, sample_app, tlgen_app}
use Rattle.cg_words.specs.Words.{GivesNumber, AsksFor, IsRegtool, IsTlgen, IsBuild, IsProbe, IsSample, NamesCommand, IsCommand, ReadsCommand}
use Rattle.cg_words.specs.Words.Reading.{is_given, one_output, output_in, if_between, number_between, number_in, regtool_with, regtool_in, tlgen_with, tlgen_in, build_with, build_in, topgen_in, session_in, probe_with, probe_in, sample_with, sample_in, taken_by, command_by, command_of, Finds}
use Rattle.cg_words.specs.declared.reading.Build.{Build}
use Rattle.cg_words.specs.declared.command.RegOut.{RegOut}
use Rattle.cg_words.specs.declared.command.RegOut.TheVariants.{Registers, Header, Completed}
use Rattle.cg_words.specs.declared.command.Command.{Command}
use Rattle.cg_words.specs.declared.command.Command.TheVariants.{Regtool, Tlgen, Topgen, Session, Probe, Sample}
use Rattle.cg_words.specs.declared.fault.WordsFault.{WordsFault}
use Rattle.cg_words.specs.declared.fault.WordsFault.TheVariants.{NotCommand, Memory}

-- ---- numbers

-- a value behind a test
if-some : {X : Type 0} (b : Bool) (o : Option X) (x : X) → (if b then o else None) ≡ Some x → (b ≡ true) × (o ≡ Some x)
if-some true o x e = (refl, e)
if-some false o x e = absurd (none-some x e)

between : (low high n m : ℕ) → if_between low high m ≡ Some n → (m ≡ n) × (low ≤ n) × (n ≤ high)
between low high n m e =
    let parts = if-some (nat_le low m && nat_le m high) (Some m) n e in
    let tests = and_parts (nat_le low m) (nat_le m high) parts.0 in
    let same : m ≡ n = same_Some m n parts.1 in
    (same, subst (λ k. low ≤ k) same (leb-true low m tests.0), subst (λ k. k ≤ high) same (leb-true m high tests.1))

-- a number that is found is within its limits
number-found : (low high n : ℕ) (o : Option ℕ) → option_and_then (if_between low high) o ≡ Some n → (o ≡ Some n) × (low ≤ n) × (n ≤ high)
number-found low high n None e = absurd (none-some n e)
number-found low high n (Some m) e = let parts = between low high n m e in (ap (λ k. Some k) parts.0, parts.1, parts.2)

number-within : (low high n : ℕ) → low ≤ n → n ≤ high → if_between low high n ≡ Some n
number-within low high n from to = rw (le-leb low n from, le-leb n high to) refl

-- what is found of a value
value-found : (low high n : ℕ) (o : Option Text) → option_and_then (number_between low high) o ≡ Some n
    → (text : Text) × (o ≡ Some text) × (number_of text ≡ Some n) × (low ≤ n) × (n ≤ high)
value-found low high n None e = absurd (none-some n e)
value-found low high n (Some text) e = let parts = number-found low high n (number_of text) e in (text, refl, parts.0, parts.1, parts.2)

-- a number that is found is the one that the words give
number_in-gives : (app : App) (words : List Text) (id : Text) (low high n : ℕ)
    → number_in id low high (matches_of app words) ≡ Some n → GivesNumber app words id low high n
number_in-gives app words id low high n e =
    let parts = value-found low high n (first_of id (matches_of app words)) e in
    record {
      text = parts.0;
      given = parts.1;
      number = IsNumber-number_of parts.0 n parts.2;
      from_low = parts.3;
      to_high = parts.4;
    }

-- and the one that the words give is found
gives-number_in : (app : App) (words : List Text) (id : Text) (low high n : ℕ)
    → GivesNumber app words id low high n → number_in id low high (matches_of app words) ≡ Some n
gives-number_in app words id low high n g =
    rw (g.given, number_of-IsNumber g.text n g.number) (number-within low high n g.from_low g.to_high)

-- ---- the output of `regtool`

flag-given : (o : Option Text) → option_map_or (λ text. bytes_eq text (codes "true")) o false ≡ true → o ≡ Some (codes "true")
flag-given None e = absurd (false≢true e)
flag-given (Some text) e = ap (λ t. Some t) ((bytes_eq-Decides text (codes "true")).0 e)

given-flag : (o : Option Text) → o ≡ Some (codes "true") → option_map_or (λ text. bytes_eq text (codes "true")) o false ≡ true
given-flag o e = rw e refl

-- the flag of an output, among the three
abbrev given_of : Bool → Bool → Bool → RegOut → Bool
given_of registers header completed Registers = registers
given_of registers header completed Header = header
given_of registers header completed Completed = completed

just_registers : (out : RegOut) → given_of true false false out ≡ true → out ≡ Registers
just_registers Registers e = refl
just_registers Header e = absurd (false≢true e)
just_registers Completed e = absurd (false≢true e)

just_header : (out : RegOut) → given_of false true false out ≡ true → out ≡ Header
just_header Registers e = absurd (false≢true e)
just_header Header e = refl
just_header Completed e = absurd (false≢true e)

just_completed : (out : RegOut) → given_of false false true out ≡ true → out ≡ Completed
just_completed Registers e = absurd (false≢true e)
just_completed Header e = absurd (false≢true e)
just_completed Completed e = refl

none_given : (out : RegOut) → given_of false false false out ≡ true → ⊥
none_given Registers e = false≢true e
none_given Header e = false≢true e
none_given Completed e = false≢true e

-- this output is asked for, and no other
abbrev IsOnly : Bool → Bool → Bool → RegOut → Type 0
IsOnly registers header completed made =
    (given_of registers header completed made ≡ true) × ((out : RegOut) → given_of registers header completed out ≡ true → out ≡ made)

one_output-only : (registers header completed : Bool) (made : RegOut) → one_output registers header completed ≡ Some made → IsOnly registers header completed made
one_output-only true false false made e = subst (IsOnly true false false) (same_Some Registers made e) (refl, just_registers)
one_output-only false true false made e = subst (IsOnly false true false) (same_Some Header made e) (refl, just_header)
one_output-only false false true made e = subst (IsOnly false false true) (same_Some Completed made e) (refl, just_completed)
one_output-only true true completed made e = absurd (none-some made e)
one_output-only true false true made e = absurd (none-some made e)
one_output-only false true true made e = absurd (none-some made e)
one_output-only false false false made e = absurd (none-some made e)

only-one_output : (registers header completed : Bool) (made : RegOut) → IsOnly registers header completed made → one_output registers header completed ≡ Some made
only-one_output true false false made only = ap (λ m. Some m) (only.1 Registers refl)
only-one_output false true false made only = ap (λ m. Some m) (only.1 Header refl)
only-one_output false false true made only = ap (λ m. Some m) (only.1 Completed refl)
only-one_output true true completed made only = let bad : Registers ≡ Header = only.1 Registers refl ∙ sym (only.1 Header refl) in cc
only-one_output true false true made only = let bad : Registers ≡ Completed = only.1 Registers refl ∙ sym (only.1 Completed refl) in cc
only-one_output false true true made only = let bad : Header ≡ Completed = only.1 Header refl ∙ sym (only.1 Completed refl) in cc
only-one_output false false false made only = absurd (none_given made only.0)

-- the flag of an output, among the values of `regtool`
abbrev given_in : List Row → RegOut → Bool
given_in rows = given_of (is_given (codes "registers") rows) (is_given (codes "header") rows) (is_given (codes "completed") rows)

given-asks : (words : List Text) (out : RegOut) → given_in (matches_of regtool_app words) out ≡ true → AsksFor words out
given-asks words Registers e = flag-given (first_of (codes "registers") (matches_of regtool_app words)) e
given-asks words Header e = flag-given (first_of (codes "header") (matches_of regtool_app words)) e
given-asks words Completed e = flag-given (first_of (codes "completed") (matches_of regtool_app words)) e

asks-given : (words : List Text) (out : RegOut) → AsksFor words out → given_in (matches_of regtool_app words) out ≡ true
asks-given words Registers e = given-flag (first_of (codes "registers") (matches_of regtool_app words)) e
asks-given words Header e = given-flag (first_of (codes "header") (matches_of regtool_app words)) e
asks-given words Completed e = given-flag (first_of (codes "completed") (matches_of regtool_app words)) e

-- ---- what a tool's values say, and what is found of them

regtool_with-named : (made' : Option RegOut) (dir' file' : Option Text) (P : Command → Type 0)
    → ((made : RegOut) (dir file : Text) → made' ≡ Some made → dir' ≡ Some dir → file' ≡ Some file → P (Regtool made dir file))
    → (c : Command) → regtool_with made' dir' file' ≡ Some c → P c
regtool_with-named None dir' file' P is c e = absurd (none-some c e)
regtool_with-named (Some made) None file' P is c e = absurd (none-some c e)
regtool_with-named (Some made) (Some dir) None P is c e = absurd (none-some c e)
regtool_with-named (Some made) (Some dir) (Some file) P is c e = subst P (same_Some (Regtool made dir file) c e) (is made dir file refl refl refl)

tlgen_with-named : (file' dir' : Option Text) (P : Command → Type 0)
    → ((file dir : Text) → file' ≡ Some file → dir' ≡ Some dir → P (Tlgen file dir))
    → (c : Command) → tlgen_with file' dir' ≡ Some c → P c
tlgen_with-named None dir' P is c e = absurd (none-some c e)
tlgen_with-named (Some file) None P is c e = absurd (none-some c e)
tlgen_with-named (Some file) (Some dir) P is c e = subst P (same_Some (Tlgen file dir) c e) (is file dir refl refl)

build_with-named : (file' dir' : Option Text) (workers' : Option ℕ) (of : Build → Command) (P : Command → Type 0)
    → ((file dir : Text) (workers : ℕ) → file' ≡ Some file → dir' ≡ Some dir → workers' ≡ Some workers → P (of (record { file = file; dir = dir; workers = workers })))
    → (c : Command) → option_map of (build_with file' dir' workers') ≡ Some c → P c
build_with-named None dir' workers' of P is c e = absurd (none-some c e)
build_with-named (Some file) None workers' of P is c e = absurd (none-some c e)
build_with-named (Some file) (Some dir) None of P is c e = absurd (none-some c e)
build_with-named (Some file) (Some dir) (Some workers) of P is c e = subst P (same_Some (of (record { file = file; dir = dir; workers = workers })) c e) (is file dir workers refl refl refl)

probe_with-named : (dir' host' : Option Text) (addr' : Option ℕ) (P : Command → Type 0)
    → ((dir host : Text) (addr : ℕ) → dir' ≡ Some dir → host' ≡ Some host → addr' ≡ Some addr → P (Probe dir host addr))
    → (c : Command) → probe_with dir' host' addr' ≡ Some c → P c
probe_with-named None host' addr' P is c e = absurd (none-some c e)
probe_with-named (Some dir) None addr' P is c e = absurd (none-some c e)
probe_with-named (Some dir) (Some host) None P is c e = absurd (none-some c e)
probe_with-named (Some dir) (Some host) (Some addr) P is c e = subst P (same_Some (Probe dir host addr) c e) (is dir host addr refl refl refl)

sample_with-named : (number' : Option ℕ) (P : Command → Type 0)
    → ((number : ℕ) → number' ≡ Some number → P (Sample number)) → (c : Command) → sample_with number' ≡ Some c → P c
sample_with-named None P is c e = absurd (none-some c e)
sample_with-named (Some number) P is c e = subst P (same_Some (Sample number) c e) (is number refl)

-- ---- each tool

-- the words that a tool takes, and what their values say
taken_by-some : (app : App) (meaning : List Row → Option Command) (words : List Text) (c : Command)
    → taken_by app meaning words ≡ Some c → (accepts app words ≡ true) × (meaning (matches_of app words) ≡ Some c)
taken_by-some app meaning words c e = if-some (accepts app words) (meaning (matches_of app words)) c e

some-taken_by : (app : App) (meaning : List Row → Option Command) (words : List Text) (c : Command)
    → accepts app words ≡ true → meaning (matches_of app words) ≡ Some c → taken_by app meaning words ≡ Some c
some-taken_by app meaning words c accepted e = rw accepted e

regtool-named : (tool : Text) (words : List Text) (c : Command) → tool ≡ codes "regtool" → taken_by regtool_app regtool_in words ≡ Some c → NamesCommand tool words c
regtool-named tool words c is e =
    let rows = matches_of regtool_app words in
    let parts = taken_by-some regtool_app regtool_in words c e in
    regtool_with-named (output_in rows) (first_of (codes "dir") rows) (first_of (codes "file") rows) (NamesCommand tool words)
    (λ made dir file output folder description.
    let only = one_output-only (is_given (codes "registers") rows) (is_given (codes "header") rows) (is_given (codes "completed") rows) made output in (
      is,
      record {
        accepted = parts.0;
        asks_for = given-asks words made only.0;
        asks_for_no_other = λ out asks. only.1 out (asks-given words out asks);
        folder = folder;
        description = description;
      },
    ))
    c parts.1

named-regtool : (words : List Text) (made : RegOut) (dir file : Text) → IsRegtool words made dir file → taken_by regtool_app regtool_in words ≡ Some (Regtool made dir file)
named-regtool words made dir file is =
    let rows = matches_of regtool_app words in
    let output : output_in rows ≡ Some made
    = only-one_output (is_given (codes "registers") rows) (is_given (codes "header") rows) (is_given (codes "completed") rows) made
    (asks-given words made is.asks_for, λ out given. is.asks_for_no_other out (given-asks words out given)) in
    some-taken_by regtool_app regtool_in words (Regtool made dir file) is.accepted (rw (output, is.folder, is.description) refl)

tlgen-named : (tool : Text) (words : List Text) (c : Command) → tool ≡ codes "tlgen" → taken_by tlgen_app tlgen_in words ≡ Some c → NamesCommand tool words c
tlgen-named tool words c is e =
    let rows = matches_of tlgen_app words in
    let parts = taken_by-some tlgen_app tlgen_in words c e in
    tlgen_with-named (first_of (codes "file") rows) (first_of (codes "dir") rows) (NamesCommand tool words)
    (λ file dir description folder. (is, record { accepted = parts.0; description = description; folder = folder }))
    c parts.1

named-tlgen : (words : List Text) (file dir : Text) → IsTlgen words file dir → taken_by tlgen_app tlgen_in words ≡ Some (Tlgen file dir)
named-tlgen words file dir is = some-taken_by tlgen_app tlgen_in words (Tlgen file dir) is.accepted (rw (is.description, is.folder) refl)

build-found : (tool : Text) (words : List Text) (of : Build → Command) (P : Command → Type 0) → accepts (build_app tool) words ≡ true
    → ((file dir : Text) (workers : ℕ) → IsBuild tool words file dir workers → P (of (record { file = file; dir = dir; workers = workers })))
    → (c : Command) → option_map of (build_in (matches_of (build_app tool) words)) ≡ Some c → P c
build-found tool words of P accepted is c e =
    let rows = matches_of (build_app tool) words in
    build_with-named (first_of (codes "file") rows) (first_of (codes "dir") rows) (number_in (codes "workers") 1 64 rows) of P
    (λ file dir workers description folder count. is file dir workers (record {
      accepted = accepted;
      description = description;
      folder = folder;
      count = number_in-gives (build_app tool) words (codes "workers") 1 64 workers count;
    }))
    c e

build_in-is : (tool : Text) (words : List Text) (file dir : Text) (workers : ℕ) → IsBuild tool words file dir workers
    → build_in (matches_of (build_app tool) words) ≡ Some (record { file = file; dir = dir; workers = workers })
build_in-is tool words file dir workers is =
    rw (is.description, is.folder, gives-number_in (build_app tool) words (codes "workers") 1 64 workers is.count) refl

topgen-named : (tool : Text) (words : List Text) (c : Command) → tool ≡ codes "topgen" → taken_by (build_app (codes "topgen")) topgen_in words ≡ Some c → NamesCommand tool words c
topgen-named tool words c is e =
    let parts = taken_by-some (build_app (codes "topgen")) topgen_in words c e in
    build-found (codes "topgen") words (λ b. Topgen b.file b.dir b.workers) (NamesCommand tool words) parts.0 (λ file dir workers build. (is, build)) c parts.1

named-topgen : (words : List Text) (file dir : Text) (workers : ℕ) → IsBuild (codes "topgen") words file dir workers
    → taken_by (build_app (codes "topgen")) topgen_in words ≡ Some (Topgen file dir workers)
named-topgen words file dir workers is =
    some-taken_by (build_app (codes "topgen")) topgen_in words (Topgen file dir workers) is.accepted
    (rw (build_in-is (codes "topgen") words file dir workers is) refl)

session-named : (tool : Text) (words : List Text) (c : Command) → tool ≡ codes "session" → taken_by (build_app (codes "session")) session_in words ≡ Some c → NamesCommand tool words c
session-named tool words c is e =
    let parts = taken_by-some (build_app (codes "session")) session_in words c e in
    build-found (codes "session") words (λ b. Session b.file b.dir b.workers) (NamesCommand tool words) parts.0 (λ file dir workers build. (is, build)) c parts.1

named-session : (words : List Text) (file dir : Text) (workers : ℕ) → IsBuild (codes "session") words file dir workers
    → taken_by (build_app (codes "session")) session_in words ≡ Some (Session file dir workers)
named-session words file dir workers is =
    some-taken_by (build_app (codes "session")) session_in words (Session file dir workers) is.accepted
    (rw (build_in-is (codes "session") words file dir workers is) refl)

probe-named : (tool : Text) (words : List Text) (c : Command) → tool ≡ codes "probe" → taken_by probe_app probe_in words ≡ Some c → NamesCommand tool words c
probe-named tool words c is e =
    let rows = matches_of probe_app words in
    let parts = taken_by-some probe_app probe_in words c e in
    probe_with-named (first_of (codes "dir") rows) (first_of (codes "host") rows) (number_in (codes "addr") 0 (2 ^ 32 - 1) rows) (NamesCommand tool words)
    (λ dir host addr folder from_host address. (
      is,
      record {
        accepted = parts.0;
        folder = folder;
        from_host = from_host;
        address = number_in-gives probe_app words (codes "addr") 0 (2 ^ 32 - 1) addr address;
      },
    ))
    c parts.1

named-probe : (words : List Text) (dir host : Text) (addr : ℕ) → IsProbe words dir host addr → taken_by probe_app probe_in words ≡ Some (Probe dir host addr)
named-probe words dir host addr is =
    some-taken_by probe_app probe_in words (Probe dir host addr) is.accepted
    (rw (is.folder, is.from_host, gives-number_in probe_app words (codes "addr") 0 (2 ^ 32 - 1) addr is.address) refl)

sample-named : (tool : Text) (words : List Text) (c : Command) → tool ≡ codes "sample" → taken_by sample_app sample_in words ≡ Some c → NamesCommand tool words c
sample-named tool words c is e =
    let rows = matches_of sample_app words in
    let parts = taken_by-some sample_app sample_in words c e in
    sample_with-named (number_in (codes "number") 1 200 rows) (NamesCommand tool words)
    (λ number size. (is, record { accepted = parts.0; size = number_in-gives sample_app words (codes "number") 1 200 number size }))
    c parts.1

named-sample : (words : List Text) (number : ℕ) → IsSample words number → taken_by sample_app sample_in words ≡ Some (Sample number)
named-sample words number is =
    some-taken_by sample_app sample_in words (Sample number) is.accepted
    (rw (gives-number_in sample_app words (codes "number") 1 200 number is.size) refl)

-- ---- all tools

-- one of two
choice : {X : Type 0} (b : Bool) (x y : Option X) (c : X) (P : Type 0) → (b ≡ true → x ≡ Some c → P) → (y ≡ Some c → P) → (if b then x else y) ≡ Some c → P
choice true x y c P first second e = first refl e
choice false x y c P first second e = second e

-- the tool has this name
is_named : (tool name : Text) → bytes_eq tool name ≡ true → tool ≡ name
is_named tool name = (bytes_eq-Decides tool name).0

command_by-named : (tool : Text) (words : List Text) (c : Command) → command_by tool words ≡ Some c → NamesCommand tool words c
command_by-named tool words c =
    let P : Type 0 = NamesCommand tool words c in
    choice (bytes_eq tool (codes "regtool")) _ _ c P (λ t. regtool-named tool words c (is_named tool _ t))
    (choice (bytes_eq tool (codes "tlgen")) _ _ c P (λ t. tlgen-named tool words c (is_named tool _ t))
    (choice (bytes_eq tool (codes "topgen")) _ _ c P (λ t. topgen-named tool words c (is_named tool _ t))
    (choice (bytes_eq tool (codes "session")) _ _ c P (λ t. session-named tool words c (is_named tool _ t))
    (choice (bytes_eq tool (codes "probe")) _ _ c P (λ t. probe-named tool words c (is_named tool _ t))
    (choice (bytes_eq tool (codes "sample")) _ _ c P (λ t. sample-named tool words c (is_named tool _ t))
    (λ e. absurd (none-some c e)))))))

named-command_by : (tool : Text) (words : List Text) (c : Command) → NamesCommand tool words c → command_by tool words ≡ Some c
named-command_by tool words (Regtool made dir file) (is, h) =
    subst (λ t. command_by t words ≡ Some (Regtool made dir file)) (sym is) (named-regtool words made dir file h)
named-command_by tool words (Tlgen file dir) (is, h) =
    subst (λ t. command_by t words ≡ Some (Tlgen file dir)) (sym is) (named-tlgen words file dir h)
named-command_by tool words (Topgen file dir workers) (is, h) =
    subst (λ t. command_by t words ≡ Some (Topgen file dir workers)) (sym is) (named-topgen words file dir workers h)
named-command_by tool words (Session file dir workers) (is, h) =
    subst (λ t. command_by t words ≡ Some (Session file dir workers)) (sym is) (named-session words file dir workers h)
named-command_by tool words (Probe dir host addr) (is, h) =
    subst (λ t. command_by t words ≡ Some (Probe dir host addr)) (sym is) (named-probe words dir host addr h)
named-command_by tool words (Sample number) (is, h) =
    subst (λ t. command_by t words ≡ Some (Sample number)) (sym is) (named-sample words number h)

-- what is found is the command
pub command_of-is : (words : List Text) (c : Command) → command_of words ≡ Some c → IsCommand words c
command_of-is [] c e = none-some c e
command_of-is (tool ∷ words) c e = command_by-named tool words c e

-- and the command is found
pub is-command_of : (words : List Text) (c : Command) → IsCommand words c → command_of words ≡ Some c
is-command_of [] c h = absurd h
is-command_of (tool ∷ words) c h = named-command_by tool words c h

-- words are at most one command
pub one_command : (words : List Text) (c d : Command) → IsCommand words c → IsCommand words d → c ≡ d
one_command words c d first second = same_Some c d (sym (is-command_of words c first) ∙ is-command_of words d second)

-- what a reader finds is what it is to answer
pub reads_found : (words : List Text) (r : Result Command WordsFault) → Finds (command_of words) r → ReadsCommand words r
reads_found words (Ok c) found = command_of-is words c found
reads_found words (Err NotCommand) none = λ c is. none-some c (sym none ∙ is-command_of words c is)
reads_found words (Err Memory) found = tt
