-- What the two lists of frames hold: frames of one sort, or frames of one sort and then of another. Both last while
-- frames are taken away in front and join at the end.
use mathlib.Core.List.{List, [], ◌∷◌, ◌++◌}
use Rattle.frame.specs.declared.Frame.{Frame}

-- every frame is of the sort P
pub data Line (P : Frame → Type 0) : List Frame → Type 0 where
  none : Line P []
  more : {f : Frame} {fs : List Frame} → P f → Line P fs → Line P (f ∷ fs)

pub joins : {P : Frame → Type 0} {fs : List Frame} {f : Frame} → Line P fs → P f → Line P (fs ++ f ∷ [])
joins none p = more p none
joins (more q l) p = more q (joins l p)

pub widens : {P Q : Frame → Type 0} {fs : List Frame} → ((f : Frame) → P f → Q f) → Line P fs → Line Q fs
widens k none = none
widens k (more {f = f} p l) = more (k f p) (widens k l)

pub behind : {P : Frame → Type 0} {f : Frame} {fs : List Frame} → Line P (f ∷ fs) → Line P fs
behind (more p l) = l

-- frames of the sort P, and then frames of the sort Q
pub data Ordered (P Q : Frame → Type 0) : List Frame → Type 0 where
  late : {fs : List Frame} → Line Q fs → Ordered P Q fs
  early : {f : Frame} {fs : List Frame} → P f → Ordered P Q fs → Ordered P Q (f ∷ fs)

pub joins_late : {P Q : Frame → Type 0} {fs : List Frame} {f : Frame} → Ordered P Q fs → Q f → Ordered P Q (fs ++ f ∷ [])
joins_late (late l) q = late (joins l q)
joins_late (early p o) q = early p (joins_late o q)

-- no frame of the later sort has come yet
pub none_late : {P Q : Frame → Type 0} {fs : List Frame} → Line P fs → Ordered P Q fs
none_late none = late none
none_late (more p l) = early p (none_late l)

pub behind_ordered : {P Q : Frame → Type 0} {f : Frame} {fs : List Frame} → Ordered P Q (f ∷ fs) → Ordered P Q fs
behind_ordered (late l) = late (behind l)
behind_ordered (early p o) = o
