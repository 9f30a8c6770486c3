-- What the bytes of a session's input ask for: commands, and where they stop.
use Rattle.std.specs.Prelude.{◌≡◌, ℕ, ◌<◌, ◌≤◌, List, [], ◌∷◌, ◌++◌, length, codes, ◌⊎◌}
use Rattle.cg_inputs.specs.Lines.{HasNoFeed, Line, put, del, build, Says}

-- ---- commands

-- a command: of a put with the bytes that follow its line
pub data Command : Type 0 where
  put_file : (name bytes : List ℕ) → Command
  del_file : (name : List ℕ) → Command
  build_files : Command

abbrev pub line_for : Command → Line
line_for (put_file name bytes) = put name (length bytes)
line_for (del_file name) = del name
line_for build_files = build

abbrev pub bytes_for : Command → List ℕ
bytes_for (put_file name bytes) = bytes
bytes_for (del_file name) = []
bytes_for build_files = []

-- the bytes begin with a whole command, and these follow it
pub record Begins (cs : List ℕ) (c : Command) (rest : List ℕ) : Type 0 where
  pub text : List ℕ
  pub says : Says text (line_for c)
  pub is : cs ≡ text ++ (10 ∷ (bytes_for c ++ rest))

-- the bytes begin with the whole line `end`, and these follow it
abbrev pub IsEnd : List ℕ → List ℕ → Type 0
IsEnd cs rest = cs ≡ codes "end" ++ (10 ∷ rest)

-- ---- what is no command

-- the bytes begin with a whole line that says nothing
pub record HasFalseLine (cs : List ℕ) : Type 0 where
  pub text : List ℕ
  pub rest : List ℕ
  pub is : cs ≡ text ++ (10 ∷ rest)
  pub is_line : HasNoFeed text
  pub says_nothing : (l : Line) → ¬ Says text l

-- or with 101 bytes of a line
pub record HasLongLine (cs : List ℕ) : Type 0 where
  pub text : List ℕ
  pub rest : List ℕ
  pub is : cs ≡ text ++ rest
  pub is_line : HasNoFeed text
  pub long : 101 ≤ length text

-- what begins here is no command
abbrev pub IsNone : List ℕ → Type 0
IsNone cs = HasFalseLine cs ⊎ HasLongLine cs

-- ---- what is not whole

-- the bytes hold less than a whole line
pub record IsLineBegun (cs : List ℕ) : Type 0 where
  pub is_line : HasNoFeed cs
  pub short : length cs ≤ 100

-- or the line of a put, and fewer bytes than it says
pub record IsPutBegun (cs : List ℕ) : Type 0 where
  pub text : List ℕ
  pub name : List ℕ
  pub count : ℕ
  pub bytes : List ℕ
  pub says : Says text (put name count)
  pub is : cs ≡ text ++ (10 ∷ bytes)
  pub few : length bytes < count

-- what begins here is not whole
abbrev pub IsShort : List ℕ → Type 0
IsShort cs = IsLineBegun cs ⊎ IsPutBegun cs

-- ---- whole inputs

-- the bytes are these commands, and then these bytes
abbrev pub Reads : List ℕ → List Command → List ℕ → Type 0
Reads cs [] rest = cs ≡ rest
Reads cs (c ∷ commands) rest = (more : List ℕ) × Begins cs c more × Reads more commands rest

-- where the commands stop: at the line `end`, at what is no command, or at what is not whole
pub data Stop : Type 0 where
  ended : (rest : List ℕ) → Stop
  false_line : Stop
  short : Stop

abbrev pub Stops : List ℕ → Stop → Type 0
Stops cs (ended rest) = IsEnd cs rest
Stops cs false_line = IsNone cs
Stops cs short = IsShort cs

-- how an input reads: its commands, and what stands where they stop
pub record HasReading (cs : List ℕ) (commands : List Command) (stop : Stop) : Type 0 where
  pub rest : List ℕ
  pub reads : Reads cs commands rest
  pub stops : Stops rest stop
