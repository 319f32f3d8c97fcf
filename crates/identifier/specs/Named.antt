-- Document 01, Around the transport: "SECC is 0x56, EVCC 0xF4", and the two version messages of
-- source document 001.
use Rattle.std.specs.Prelude.{ℕ}
use Rattle.identifier.specs.declared.Parts.{Parts}

-- SECC, the charger's address, and EVCC, the vehicle's
abbrev pub charger_address : ℕ
charger_address = 0x56

abbrev pub vehicle_address : ℕ
vehicle_address = 0xF4

-- 001 table 4, the charger's version message: P 0x03, EDP 0, DP 0, PF 0x38, PS 0xF4 (to the
-- vehicle), SA 0x56 (from the charger)
abbrev pub charger_version_parts : Parts
charger_version_parts =
    record { p = 3; edp = 0; dp = 0; pf = 0x38; ps = vehicle_address; sa = charger_address }

-- 001 table 5, the vehicle's version message: P 0x03, EDP 0, DP 0, PF 0x36, PS 0x56 (to the
-- charger), SA 0xF4 (from the vehicle)
abbrev pub vehicle_version_parts : Parts
vehicle_version_parts =
    record { p = 3; edp = 0; dp = 0; pf = 0x36; ps = charger_address; sa = vehicle_address }

-- their identifiers; document 01 prints the first at the end of its edge cases
abbrev pub charger_version : ℕ
charger_version = 0x0C38F456

abbrev pub vehicle_version : ℕ
vehicle_version = 0x0C3656F4
