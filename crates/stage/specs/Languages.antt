-- The stage of a language: it reads languages and references off a card.
use Rattle.std.specs.Prelude.{ℕ, ◌-◌, Bool, true, cond, ◌&&◌, ◌||◌, List, [], ◌∷◌, length, take, drop, Some, None, Option, ◌==◌, nat_lt, slice_index}
use Rattle.std.specs.List.{prefix_len, suffix_len}
use Rattle.std.specs.Str.{bytes_eq}
use Rattle.names.specs.declared.AId.TheVariants as name
use Rattle.names.specs.declared.EId.TheVariants as tag
use Rattle.card.specs.Contents.{Card, has_tag}
use Rattle.card.specs.Lists.{any, highest}
use Rattle.document.specs.Reads.{is_element}
use Rattle.values.specs.Attributes.{says}
use Rattle.values.specs.Kinds.{as_text}
use Rattle.values.specs.Values.{bound, own}
use Rattle.stage.specs.Stages.{Staging}

-- ---- languages

-- one byte more in the first part
abbrev pub into_first : ℕ → List (List ℕ) → List (List ℕ)
into_first b [] = (b ∷ []) ∷ []
into_first b (part ∷ parts) = (b ∷ part) ∷ parts

-- the parts between commas
abbrev pub entries : List ℕ → List (List ℕ)
entries [] = [] ∷ []
entries (b ∷ rest) = cond (b == 44) ([] ∷ entries rest) (into_first b (entries rest))

-- U+0020
abbrev pub is_space : ℕ → Bool
is_space b = b == 32

-- without spaces in front
abbrev pub trimmed_start : List ℕ → List ℕ
trimmed_start bs = drop (prefix_len is_space bs) bs

-- without spaces behind
abbrev pub trimmed_end : List ℕ → List ℕ
trimmed_end bs = take (length bs - suffix_len is_space bs) bs

-- without spaces in front and behind
abbrev pub trimmed : List ℕ → List ℕ
trimmed bs = trimmed_end (trimmed_start bs)

-- two tags of languages are the same: byte for byte
abbrev pub same_tag : List ℕ → List ℕ → Bool
same_tag a b = bytes_eq a b

-- an entry is the language, or begins with it and a hyphen
abbrev pub matches : List ℕ → List ℕ → Bool
matches language entry = same_tag entry language || (slice_index entry (length language) == 45 && same_tag (take (length language) entry) language)

-- one entry of a list matches
abbrev pub any_matches : List ℕ → List ℕ → Bool
any_matches language value = any (λ entry. matches language (trimmed entry)) (entries value)

-- an element's own list of languages has the language; one without a list is for all
abbrev pub speaks_by : List ℕ → Option (List ℕ) → Bool
speaks_by language None = true
speaks_by language (Some value) = any_matches language value

abbrev pub speaks : Card → List ℕ → ℕ → Bool
speaks card language e = speaks_by language (own as_text card e name.SystemLanguage)

-- ---- references

-- what a reference names: what stands after a `#` in front, if anything does
abbrev pub referred : List ℕ → Option (List ℕ)
referred href = cond (nat_lt 1 (length href) && slice_index href 0 == 35) (Some (drop 1 href)) None

-- an element whose own `id` is this
abbrev pub called : Card → List ℕ → ℕ → Bool
called card id k = is_element card k && says (own as_text card k name.Id) id

-- the highest of them
abbrev pub named : Card → List ℕ → Option ℕ
named card id = highest (called card id) (length card)

-- the number, if it is a `path`
abbrev pub as_path : Card → ℕ → Option ℕ
as_path card k = cond (has_tag tag.Path card k) (Some k) None

-- the path that an element refers to by its own `href`
abbrev pub path_of : Card → ℕ → Option ℕ
path_of card e = bound (λ id. bound (as_path card) (named card id)) (bound referred (own as_text card e name.Href))

-- ---- the stage

-- an element that speaks the language is drawn; a number that is no element is not, and has no own `href`
abbrev pub language_stage : Card → List ℕ → Staging
language_stage card language = record { drawn = λ k. is_element card k && speaks card language k; flow = path_of card }
