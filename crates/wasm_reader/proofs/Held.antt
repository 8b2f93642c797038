-- Files that are told.
use Rattle.std.proofs.Common.{◌≡◌, ℕ, List, [], Option, Some, None, refl, sym, ap}
use Rattle.std.specs.Prelude.{IsSome, unwrap_or}
use Rattle.vault_port.specs.Files.{Files, bytes_of}
use Rattle.vault_port.specs.Told.{WhereTold}
use Rattle.wasm_reader.specs.Held.{Holds}

present : (o : Option (List ℕ)) → IsSome o → o ≡ Some (unwrap_or o [])
present None h = cc
present (Some bytes) h = refl

-- a file that is there holds its bytes
pub holds_own : (all : Files) (name : List ℕ) → IsSome (all name) → all name ≡ Some (bytes_of all name)
holds_own all name h = present (all name) h

pub own_bytes : (all : Files) (name bytes : List ℕ) → all name ≡ Some bytes → bytes ≡ bytes_of all name
own_bytes all name bytes e = sym (ap (λ (o : Option (List ℕ)). unwrap_or o []) e)

some_there : (o : Option (List ℕ)) (bytes : List ℕ) → o ≡ Some bytes → IsSome o
some_there None bytes e = cc
some_there (Some x) bytes e = refl

-- a file that holds bytes is there
pub held_there : (files : Option Files) (name bytes : List ℕ) → Holds files name bytes → WhereTold files (λ all. IsSome (all name))
held_there None name bytes h = tt
held_there (Some all) name bytes h = some_there (all name) bytes h
