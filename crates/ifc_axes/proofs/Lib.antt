mod Upwards
