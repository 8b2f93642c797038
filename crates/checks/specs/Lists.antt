-- Lists of imports, and what they list.
use Rattle.std.specs.Prelude.{◌≡◌, [], ◌∷◌, true, false, Ok, Err, codes}
use Rattle.wa_types.specs.Pausing.{beginning, exactly, empty_entry, star_inside, no_dot, of_list, every, nobody, list_of, is_listed}

-- What texts spell.
pub record Lists : Type 0 where
  pub empty_text : list_of [] ≡ Err empty_entry
  pub empty_between : list_of (codes "env.a,,env.b") ≡ Err empty_entry
  pub empty_at_end : list_of (codes "env.a,") ≡ Err empty_entry
  pub star_not_last : list_of (codes "env.*x") ≡ Err star_inside
  pub without_dot : list_of (codes "env") ≡ Err no_dot
  pub first_error : list_of (codes "env,a*b") ≡ Err no_dot
  pub two_entries : list_of (codes "env.sl*,host.read") ≡ Ok (beginning (codes "env.sl") ∷ exactly (codes "host.read") ∷ [])
  pub star_alone : list_of (codes "*") ≡ Ok (beginning [] ∷ [])

-- What they list.
pub record Listings : Type 0 where
  pub begins : is_listed (of_list (beginning (codes "env.sl") ∷ [])) (codes "env.sleep") ≡ true
  pub begins_otherwise : is_listed (of_list (beginning (codes "env.sl") ∷ [])) (codes "env.log") ≡ false
  pub same_name : is_listed (of_list (exactly (codes "host.read") ∷ [])) (codes "host.read") ≡ true
  pub longer_name : is_listed (of_list (exactly (codes "host.read") ∷ [])) (codes "host.reads") ≡ false
  pub shorter_name : is_listed (of_list (exactly (codes "host.read") ∷ [])) (codes "host.rea") ≡ false
  pub all_imports : is_listed every (codes "host.read") ≡ true
  pub no_imports : is_listed nobody (codes "host.read") ≡ false
