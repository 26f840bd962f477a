use Rattle.std.proofs.Common.{◌≡◌, ◌≢◌, ℕ, ◌+◌, ◌<◌, true, false, List, [], ◌∷◌, ◌++◌, length, take, drop, get_or, set, suc, refl, ap, sym, subst, ◌∙◌, arith}
use Rattle.std.specs.Prelude.{Option, Some, None, if◌then◌else◌}
use Rattle.std.specs.Option.{option_or}
use Rattle.std.specs.Str.{bytes_eq}
use Rattle.std.proofs.lemmas.Slice.Eq.{bytes_eq-Decides}
use Rattle.std.proofs.lemmas.List.{set_split, take_more, get_or_default}
use Rattle.std.proofs.lemmas.Grind.{common_steps}
use Rattle.io_edge.specs.MemoryShelf.{file_named, bytes_at, IsFirstNamed, Puts}
use Rattle.io_edge.specs.declared.files.File.{File}

pub file_named-append : (xs ys : List File) (name : List ℕ)
    → file_named (xs ++ ys) name ≡ option_or (file_named xs name) (file_named ys name)
file_named-append [] ys name = refl
file_named-append (file ∷ xs) ys name =
    elim (bytes_eq file.name name) as (λ b. (if b then Some file.bytes else file_named (xs ++ ys) name)
    ≡ option_or (if b then Some file.bytes else file_named xs name) (file_named ys name))
    [ true ↦ refl | false ↦ file_named-append xs ys name ]

pub is_named : (name : List ℕ) → bytes_eq name name ≡ true
is_named name = (bytes_eq-Decides name name).1 refl

pub is_not_named : (other name : List ℕ) → other ≢ name → bytes_eq name other ≡ false
is_not_named other name differs =
    elim (bytes_eq name other) as (λ b. b ≡ bytes_eq name other → b ≡ false)
    [ true ↦ λ same. absurd (differs (sym ((bytes_eq-Decides name other).0 (sym same)))) | false ↦ λ _. refl ]
    refl

-- A list with an element in it is what stands before, the element and what stands after.
pub split_at : (files : List File) (place : ℕ) (file : File) → place < length files → file ≡ get_or files place file
    → files ≡ take place files ++ file ∷ drop (suc place) files
split_at files place file within is =
    sym (set-get_or files place file is within) ∙ set_split files place file within
  where
    set-get_or : (files : List File) (place : ℕ) (file : File) → file ≡ get_or files place file → place < length files
        → set files place file ≡ files
    set-get_or files place file is within = grind (arith, common_steps)

-- One more file of another name was passed.
pub other_more : (files : List File) (place : ℕ) (name : List ℕ) (file : File)
    → place < length files → file ≡ get_or files place file
    → bytes_eq file.name name ≡ false
    → file_named (take place files) name ≡ None → file_named (take (place + 1) files) name ≡ None
other_more files place name file within is differs none =
    rw (
      take_more files place file within,
      ← is,
      file_named-append (take place files) (file ∷ []) name,
      none,
      differs,
    )

-- The first file of the name was found.
pub named_here : (files : List File) (place : ℕ) (name : List ℕ) (file : File)
    → place < length files → file ≡ get_or files place file
    → bytes_eq file.name name ≡ true
    → file_named (take place files) name ≡ None
    → file_named files name ≡ Some (bytes_at files place)
named_here files place name file within is same none =
    let here : file_named (take place files ++ file ∷ drop (suc place) files) name ≡ Some file.bytes =
    rw (file_named-append (take place files) (file ∷ drop (suc place) files) name, none, same)
    in ap (λ fs. file_named fs name) (split_at files place file within is) ∙ here
    ∙ ap (λ (f : File). Some f.bytes) (is ∙ get_or_default files place file (record { name = []; bytes = [] }) within)

-- the file between these others gets other bytes
pub put_between : (before after : List File) (file : File) (name bytes : List ℕ)
    → file.name ≡ name → file_named before name ≡ None
    → Puts (before ++ file ∷ after) name bytes (before ++ record { name = file.name; bytes = bytes } ∷ after)
put_between before after file name bytes named none = record {
  there =
      rw (
        file_named-append before (record { name = file.name; bytes = bytes } ∷ after) name,
        none,
        named,
        is_named name,
      );
  others = λ other differs.
      let skipped : bytes_eq file.name other ≡ false = rw named (is_not_named other name differs) in
      rw (
        file_named-append before (record { name = file.name; bytes = bytes } ∷ after) other,
        file_named-append before (file ∷ after) other,
        skipped,
      );
}

pub put_replaces : (files : List File) (place : ℕ) (file : File) (name bytes : List ℕ)
    → IsFirstNamed files name place → file ≡ get_or files place file
    → Puts files name bytes (set files place (record { name = file.name; bytes = bytes }))
put_replaces files place file name bytes found is =
    let named : file.name ≡ name = ap (λ (f : File). f.name) is ∙ found.named file in
    let P : List File → Type 0 = λ old. Puts old name bytes (set files place (record { name = file.name; bytes = bytes })) in
    subst P (sym (split_at files place file found.within is))
    (rw (set_split files place (record { name = file.name; bytes = bytes }) found.within)
    (put_between (take place files) (drop (suc place) files) file name bytes named found.first))

pub put_adds : (files : List File) (name bytes : List ℕ)
    → file_named files name ≡ None
    → Puts files name bytes (files ++ record { name = name; bytes = bytes } ∷ [])
put_adds files name bytes none = record {
  there = rw (file_named-append files (record { name = name; bytes = bytes } ∷ []) name, none, is_named name);
  others = λ other differs.
      rw (
        file_named-append files (record { name = name; bytes = bytes } ∷ []) other,
        is_not_named other name differs,
      )
      (or_none (file_named files other));
}
  where
    or_none : (o : Option (List ℕ)) → option_or o None ≡ o
    or_none None = refl
    or_none (Some x) = refl
