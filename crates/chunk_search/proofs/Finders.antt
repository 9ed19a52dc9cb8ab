-- A function that tells the chunk with which bytes begin.
use Rattle.std.proofs.Common.{◌≡◌, ℕ, List, Option, Some, None, refl, sym, ◌∙◌}
use Rattle.chunk_format.specs.declared.chunk.Chunk.{Chunk}
use Rattle.segment_pairs.specs.Log.{Finder}
use Rattle.chunk_search.specs.Finding.{chunk_in}
use Rattle.chunk_search.proofs.Found.{found, all_found}

pub chunk_finder : Finder
chunk_finder = record { find = chunk_in; found = found; all = all_found }

pub finder_is : (F : Finder) × ((bytes : List ℕ) → F.find bytes ≡ chunk_in bytes)
unfolding chunk_finder
finder_is = (chunk_finder, λ bytes. refl)

agree_by : (F G : Finder) (bytes : List ℕ) (a b : Option Chunk) → F.find bytes ≡ a → G.find bytes ≡ b → a ≡ b
agree_by F G bytes None None f g = refl
agree_by F G bytes None (Some d) f g =
    let begins = G.found bytes d g in
    sym f ∙ F.all bytes d begins.0 begins.1
agree_by F G bytes (Some c) b f g =
    let begins = F.found bytes c f in
    sym (G.all bytes c begins.0 begins.1) ∙ g

pub finders_agree : (F G : Finder) (bytes : List ℕ) → F.find bytes ≡ G.find bytes
finders_agree F G bytes = agree_by F G bytes (F.find bytes) (G.find bytes) refl refl
