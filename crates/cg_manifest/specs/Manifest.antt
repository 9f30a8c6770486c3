-- The manifest of a build: the digest of each of its files (SHA-256, FIPS 180-4).
use Rattle.std.specs.Prelude.{ℕ, List, [], ◌∷◌, ◌++◌, codes, flat_map}
use Rattle.hex.specs.Hex.{encode_lower}
use Rattle.sha2.specs.Sha256.{sha256}
use Rattle.cg_outputs.specs.declared.out_file.OutFile.{OutFile}

-- a file's digest in lower-case hexadecimal, a blank, and its name
unfoldable pub digest_line : OutFile → List ℕ
digest_line o = encode_lower (sha256 o.bytes) ++ (codes " " ++ (o.name ++ 10 ∷ []))

-- the top's name on a line, and then a line for each file, in their order
unfoldable pub manifest_text : List ℕ → List OutFile → List ℕ
manifest_text top files = codes "top " ++ (top ++ (10 ∷ flat_map digest_line files))

abbrev pub manifest_name : List ℕ
manifest_name = codes "manifest.txt"

-- the manifest of these files
abbrev pub manifest_of : List ℕ → List OutFile → OutFile
manifest_of top files = record { name = manifest_name; bytes = manifest_text top files }
