-- What the words behind `serve` ask for.
use Rattle.std.specs.Prelude.{◌≡◌, ◌⊎◌, ◌≤◌, ℕ, List, [], ◌∷◌, ◌++◌, length, All, Option, Some, None, ⊤}
use Rattle.std.specs.Fmt.{decimal}
use Rattle.std.specs.Str.{IsUtf8}
use Rattle.script_text.specs.Words.{Lacks}
use Rattle.clap.specs.Words.{Text, fault_of}
use Rattle.serve_words.specs.ServeApp.{serve_app}
use Rattle.serve_words.specs.Told.{Values, told}
use Rattle.serve_words.specs.declared.words.Asked.{Asked}
use Rattle.serve_words.specs.declared.words.ServeWords.{ServeWords}

pub record Wanted : Type 0 where
  pub host : List ℕ
  pub port : ℕ
  pub folder : List ℕ
  pub user : List ℕ
  pub password : List ℕ
  pub members : Option ℕ

-- between host and port
abbrev pub colon : ℕ
colon = 58

-- a host of 1 to 255 bytes without a colon, a colon, and a port
pub record IsAddress (word host : List ℕ) (port : ℕ) : Type 0 where
  pub spelled : word ≡ host ++ colon ∷ decimal port
  pub whole : Lacks colon host
  pub some : 1 ≤ length host
  pub short : length host ≤ 255
  pub small : port ≤ 65535

-- so many members a stream may have
abbrev pub IsGroupSize : ℕ → Type 0
IsGroupSize count = (count ≡ 1) ⊎ ((count ≡ 3) ⊎ ((count ≡ 5) ⊎ (count ≡ 7)))

pub record IsCount (word : List ℕ) (count : ℕ) : Type 0 where
  pub spelled : word ≡ decimal count
  pub size : IsGroupSize count

abbrev pub IsListen : Option Text → List ℕ → ℕ → Type 0
IsListen None host port = ⊥
IsListen (Some word) host port = IsAddress word host port

-- so many members, or no word of them
abbrev pub IsMembers : Option Text → Option ℕ → Type 0
IsMembers None None = ⊤
IsMembers None (Some count) = ⊥
IsMembers (Some word) None = ⊥
IsMembers (Some word) (Some count) = IsCount word count

-- the options' values ask for it
pub record Gives (v : Values) (w : Wanted) : Type 0 where
  pub listens : IsListen v.listen w.host w.port
  pub in_folder : v.dir ≡ Some w.folder
  pub lets_in : v.user ≡ Some w.user
  pub by_password : v.password ≡ Some w.password
  pub counts : IsMembers v.members w.members

abbrev pub words_of : Wanted → ServeWords
words_of w = record { host = Some w.host; port = w.port; folder = w.folder; user = w.user; password = w.password; members = w.members }

abbrev pub wanted_of : Asked → Wanted
wanted_of a = record { host = a.host.now; port = a.port; folder = a.folder.now; user = a.user.now; password = a.password.now; members = a.members }

-- the command takes the texts, and their values ask for it
pub record Takes (texts : List Text) (asked : ServeWords) : Type 0 where
  pub taken : fault_of serve_app texts ≡ []
  pub wanted : Wanted
  pub gives : Gives (told texts) wanted
  pub is : asked ≡ words_of wanted

-- the words are UTF-8, the command takes them, and they ask for it
abbrev pub AskFor : List (List ℕ) → ServeWords → Type 0
AskFor words asked = All IsUtf8 words × Takes words asked

abbrev pub AreTexts : List (List ℕ) → List (List ℕ) → Type 0
AreTexts words texts = (texts ≡ words) × All IsUtf8 words
